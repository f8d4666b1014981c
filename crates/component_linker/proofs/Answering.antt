-- Why an action has no answer.
use Rattle.std.proofs.Common.{◌≡◌, ℕ, List, Option}
use Rattle.component_session.specs.declared.fault.Fault.{Fault}
use Rattle.command_line.specs.declared.line.Line.{Line}
use Rattle.component_linker.specs.declared.program.Stop.{Stop}
use Rattle.component_linker.specs.declared.program.Stop.TheVariants as stops
use Rattle.component_session.specs.Input.{Input}
use Rattle.component_linker.specs.Program.{Files, IsAnswer}
use Rattle.component_linker.specs.Stops.{WritesPart, IsFileStop, IsAnswerCause, IsWriteStop, IsAnswerStop, out_path}

-- where OUT can't be written, a part of the answer is
pub cut_off : (Cause : Fault → Type 0) (Untouched Part : Type 0) (out : List ℕ) (s : Stop) → IsFileStop (λ p. p ≡ out) s → Part → IsWriteStop Cause out Untouched Part s
cut_off Cause Untouched Part out (stops.Refused fault) why part = absurd why
cut_off Cause Untouched Part out (stops.Unresolved error place) why part = absurd why
cut_off Cause Untouched Part out (stops.File path) why part = (why, part)
cut_off Cause Untouched Part out stops.Usage why part = absurd why

-- a cause and an answer are those of the action
pub acted : {Cause : Fault → Type 0} {Is : ℕ → List ℕ → Type 0} (Untouched : Type 0) (files : Files) (l : Line) (given : Input) (old new : Option (List ℕ)) (s : Stop)
    → ((fault : Fault) → Cause fault → IsAnswerCause files l.inputs.items given l.action fault)
    → ((status : ℕ) (text : List ℕ) → Is status text → IsAnswer files l.inputs.items given l.action status text)
    → IsWriteStop Cause (out_path l) Untouched (WritesPart Is old new) s → IsAnswerStop files l given Untouched old new s
acted Untouched files l given old new (stops.Refused fault) causes answers why = (why.0, causes fault why.1)
acted Untouched files l given old new (stops.Unresolved error place) causes answers why = absurd why
acted Untouched files l given old new (stops.File path) causes answers why = (why.0, (why.1.0, why.1.1, answers why.1.0 why.1.1 why.1.2, why.1.3))
acted Untouched files l given old new stops.Usage causes answers why = absurd why
