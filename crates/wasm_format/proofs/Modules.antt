-- Modules and what breaks them, by the law of grammars.
use Rattle.std.proofs.Common.{◌≡◌, ◌++◌, ℕ, List, sym, ap, ◌∙◌}
use Rattle.binary_grammar.specs.declared.fault.Fault.{Fault}
use Rattle.binary_grammar.specs.declared.fault.Rule.TheVariants as rules
use Rattle.binary_grammar.specs.Syntax.{meaning}
use Rattle.binary_grammar.proofs.Laws.{moved, ok_is}
use Rattle.binary_grammar.proofs.Lawful.{lawful}
use Rattle.wasm_sections.specs.Module.{file, nothing}
use Rattle.wasm_format.specs.Module.{ModuleValue, module_of}
use Rattle.wasm_format.specs.Grammar.{IsModule, BreaksModule}

-- bytes are at most one module
pub one_module : (bytes : List ℕ) (m n : ModuleValue) → IsModule bytes m → IsModule bytes n → m ≡ n
one_module bytes m n h k =
    let good = (lawful file nothing).again bytes in
    let same = ok_is h.sections k.sections (sym (good h.sections h.are) ∙ good k.sections k.are) in
    sym h.made ∙ ap module_of same ∙ k.made

-- bytes that break a rule aren't a module, and break it at one place
pub one_break : (bytes : List ℕ) (e : Fault) → BreaksModule bytes e → ((m : ModuleValue) → IsModule bytes m → ⊥) × ((d : Fault) → BreaksModule bytes d → d ≡ e)
one_break bytes e h =
    let one = (lawful file nothing).broken bytes e h in
    ((λ m k. let two = (lawful file nothing).again bytes k.sections k.are in cc), (λ d k. let two = (lawful file nothing).broken bytes d k in cc))

-- no module begins with bytes that break a rule other than Short
pub none_begins : (bytes : List ℕ) (e : Fault) (more : List ℕ) → BreaksModule bytes e → (e.rule ≡ rules.Short → ⊥) → BreaksModule (bytes ++ more) (moved e more) × ((m : ModuleValue) → IsModule (bytes ++ more) m → ⊥)
none_begins bytes e more h other =
    let still = (lawful file nothing).stays bytes e more other h in
    (still, (one_break (bytes ++ more) (moved e more) still).0)
