-- What reading answers, by the law of grammars.
use Rattle.std.proofs.Common.{◌≡◌, ◌++◌, ℕ, List, Result, Ok, Err, IfOk, IfErr, refl, sym, ◌∙◌}
use Rattle.std.specs.Prelude.{MatchResult}
use Rattle.binary_grammar.specs.declared.fault.Fault.{Fault}
use Rattle.binary_grammar.specs.declared.fault.ReadError.{ReadError}
use Rattle.binary_grammar.specs.declared.fault.ReadError.TheVariants as errors
use Rattle.binary_grammar.specs.Fault.{Gives}
use Rattle.binary_grammar.specs.Syntax.{meaning}
use Rattle.binary_grammar.specs.declared.fault.Rule.TheVariants as rules
use Rattle.binary_grammar.proofs.Laws.{moved}
use Rattle.binary_grammar.proofs.Lawful.{lawful}
use Rattle.component_sections.specs.Component.{DefinitionValue, component, IsComponent, BreaksComponent, IsComponentFault}
use Rattle.component_entries.specs.Entries.{nothing}

abbrev given : List DefinitionValue → Result (List DefinitionValue) Fault
given ss = Ok ss

same_given : (ss ts : List DefinitionValue) → given ss ≡ given ts → ss ≡ ts
same_given ss ts e = cc

module _ {X : Type 0} (view : X → List DefinitionValue) (bytes : List ℕ) where
  pub answers_found : (r : Result X ReadError) → Gives view r ((meaning component nothing).read bytes) → IfOk r (λ x. IsComponent bytes (view x))
  answers_found (Ok x) g = (lawful component nothing).found bytes (view x) g
  answers_found (Err e) g = tt

  pub answers_only : (r : Result X ReadError) → Gives view r ((meaning component nothing).read bytes) → (ss : List DefinitionValue) → IsComponent bytes ss → MatchResult r (λ x. view x ≡ ss) (λ e. e ≡ errors.Memory)
  answers_only (Ok x) g ss h = same_given (view x) ss (sym g ∙ (lawful component nothing).again bytes ss h)
  answers_only (Err errors.Memory) g ss h = refl
  answers_only (Err (errors.Malformed f)) g ss h = let good = (lawful component nothing).again bytes ss h in absurd cc

  pub answers_fault : (r : Result X ReadError) → Gives view r ((meaning component nothing).read bytes) → IfErr r (IsComponentFault bytes)
  answers_fault (Ok x) g = tt
  answers_fault (Err errors.Memory) g = tt
  answers_fault (Err (errors.Malformed f)) g = (lawful component nothing).stops bytes f g

pub one_list : (bytes : List ℕ) (ds es : List DefinitionValue) → IsComponent bytes ds → IsComponent bytes es → ds ≡ es
one_list bytes ds es h k = same_given ds es (sym ((lawful component nothing).again bytes ds h) ∙ (lawful component nothing).again bytes es k)

pub one_break : (bytes : List ℕ) (e : Fault) → BreaksComponent bytes e → ((ds : List DefinitionValue) → IsComponent bytes ds → ⊥) × ((d : Fault) → BreaksComponent bytes d → d ≡ e)
one_break bytes e h =
    let one = (lawful component nothing).broken bytes e h in
    ((λ ds k. let two = (lawful component nothing).again bytes ds k in cc), (λ d k. let two = (lawful component nothing).broken bytes d k in cc))

pub none_begins : (bytes : List ℕ) (e : Fault) (more : List ℕ) → BreaksComponent bytes e → (e.rule ≡ rules.Short → ⊥) → BreaksComponent (bytes ++ more) (moved e more) × ((ds : List DefinitionValue) → IsComponent (bytes ++ more) ds → ⊥)
none_begins bytes e more h other =
    let still = (lawful component nothing).stays bytes e more other h in
    (still, (one_break (bytes ++ more) (moved e more) still).0)
