-- What the code's step stands for.
use Rattle.std.specs.Prelude.{vec_items}
use Rattle.revise.specs.declared.script.Step.{Step}
use Rattle.revise.specs.declared.script.Step.TheVariants.{Strike, Enter}
use Rattle.revise.specs.Scripts.{Change, strikes, enters}

-- the change that a step asks for
abbrev pub change_of : Step → Change
change_of (Strike n) = strikes n
change_of (Enter l ws) = enters l (vec_items ws)
