-- Why functions aren't exported.
use Rattle.std.specs.Prelude.{◌≡◌, ◌⊎◌, ℕ, List, Option, false}
use Rattle.distinct_names.specs.Names.{is_new}
use Rattle.wit_types.specs.declared.kind.«Type».{«Type» as Ref}
use Rattle.type_writing.specs.declared.fault.Fault.{Fault}
use Rattle.type_writing.specs.Writing.{IsRemembered}
use Rattle.type_writing.specs.Refusals.{IsCause, AreUnready}

-- a part of its type isn't ready, or its name is there already; or 32 bits can't say an index
abbrev pub IsFunctionCause : (ℕ → Option ℕ) → List (Option Ref) → List (List ℕ) → List ℕ → Type 0 → Fault → Type 0
IsFunctionCause table parts names name full = IsCause (AreUnready (IsRemembered table) parts ⊎ (is_new names name ≡ false)) full
