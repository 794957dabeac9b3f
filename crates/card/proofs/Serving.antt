-- Each call of a service leads on from where the service has led.
use Rattle.std.proofs.Common.{◌≡◌, ap, ◌∙◌}
use Rattle.card.specs.Models.{Model}
use Rattle.card.specs.Histories.{Call, step_of, Serves}

pub serves : (call : Call) (m n : Model) → n ≡ step_of call m → Serves call m n
serves call m n e = λ h at. e ∙ ap (step_of call) at
