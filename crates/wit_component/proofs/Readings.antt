-- What bytes are read as is the module that they are.
use Rattle.std.proofs.Common.{◌≡◌, ℕ, ◌<◌, ◌^◌, Bool, true, false, cond, List, length, Some, None, Result, Ok, Err, refl, ap, ◌∙◌, nat_lt}
use Rattle.std.proofs.lemmas.Option.{same_Some}
use Rattle.std.proofs.lemmas.Bool.{lt-ltb, ltb-true}
use Rattle.binary_grammar.specs.declared.fault.Fault.{Fault}
use Rattle.binary_grammar.specs.Syntax.{meaning}
use Rattle.binary_grammar.proofs.Lawful.{lawful}
use Rattle.wasm_sections.specs.Module.{SectionValue, file, nothing}
use Rattle.wasm_format.specs.Module.{ModuleValue, module_of}
use Rattle.wasm_format.specs.Grammar.{IsModule}
use Rattle.wit_component.specs.Linking.{module_in, reading}

pub reading_is : (bytes : List ℕ) (m : ModuleValue) → IsModule bytes m → reading bytes ≡ Some m
reading_is bytes m h =
    let few : nat_lt (length bytes) (2 ^ 32) ≡ true = lt-ltb (length bytes) (2 ^ 32) h.small in
    rw few (ap module_in ((lawful file nothing).again bytes h.sections h.are) ∙ ap (λ (x : ModuleValue). Some x) h.made)

pub is_reading : (bytes : List ℕ) (m : ModuleValue) → reading bytes ≡ Some m → IsModule bytes m
is_reading bytes m h = by_size (nat_lt (length bytes) (2 ^ 32)) refl h
  where
    by_reading : length bytes < 2 ^ 32 → (r : Result (List SectionValue) Fault) → (meaning file nothing).read bytes ≡ r → module_in r ≡ Some m → IsModule bytes m
    by_reading small (Ok sections) e is = record { sections = sections; are = (lawful file nothing).found bytes sections e; made = same_Some (module_of sections) m is; small = small }
    by_reading small (Err fault) e is = absurd cc

    by_size : (b : Bool) → nat_lt (length bytes) (2 ^ 32) ≡ b → cond b (module_in ((meaning file nothing).read bytes)) None ≡ Some m → IsModule bytes m
    by_size true e is = by_reading (ltb-true (length bytes) (2 ^ 32) e) ((meaning file nothing).read bytes) refl is
    by_size false e is = absurd cc
