-- What a line makes of what is handed to a session.
use Rattle.std.proofs.Common.{ℕ, Bool, List, Option, inl, inr}
use Rattle.command_line.specs.declared.line.Line.{Line}
use Rattle.component_session.specs.Input.{Input}
use Rattle.wit_types.specs.declared.«package».PackageName.{PackageName}
use Rattle.component_linker.specs.Program.{Files, Handed, IsAnswer, IsOutcome, Writes}
use Rattle.component_linker.specs.Stops.{IsAnswerStop, IsPrepareStop, IsStop}
use Rattle.component_linker.specs.declared.program.Stop.{Stop}
use Rattle.component_linker.specs.declared.program.Stop.TheVariants as stops

module _ (eq : PackageName → PackageName → Bool) (files : Files) (l : Line) (old new : Option (List ℕ)) where
  -- where it isn't handed in
  pub prepared : (Untouched : Type 0) → Untouched → (s : Stop) → IsPrepareStop eq files l s → IsStop eq files l Untouched old new s
  prepared Untouched same (stops.Refused fault) why = (same, inl why)
  prepared Untouched same (stops.Unresolved error place) why = (same, why)
  prepared Untouched same (stops.File path) why = inl (same, why)
  prepared Untouched same stops.Usage why = absurd why

  module _ (given : Input) (handed : Handed eq files l given) where
    pub outcome : (status : ℕ) → Writes (IsAnswer files l.inputs.items given l.action status) old new → IsOutcome eq files l status old new
    outcome status written = (written.0, (given, handed, written.1), written.2)

    pub stopped : (Untouched : Type 0) (s : Stop) → IsAnswerStop files l given Untouched old new s → IsStop eq files l Untouched old new s
    stopped Untouched (stops.Refused fault) why = (why.0, inr (given, handed, why.1))
    stopped Untouched (stops.Unresolved error place) why = absurd why
    stopped Untouched (stops.File path) why = inr (handed.there, why.0, (why.1.0, why.1.1, (given, handed, why.1.2), why.1.3))
    stopped Untouched stops.Usage why = why
