use Rattle.std.proofs.Common.{ℕ, List, [], ◌∷◌, ◌++◌, ◌∙◌, length, ap, sym, subst}
use Rattle.wit_words.specs.declared.source_map.Span.{Span}
use Rattle.wit_types.specs.declared.interface.TypeDef.{TypeDef}
use Rattle.wit_lookups.specs.Passed.wit_syntax-AstView as view
use Rattle.wit_lookups.proofs.Passed.wit_scopes-Outcomes.{on_ok}
use Rattle.wit_package_types.specs.Passed.wit_arena-Meaning.{Has}
use Rattle.wit_package_types.specs.Foreign.{ForeignName, foreign_name}
use Rattle.wit_foreign.specs.View as seen
use Rattle.wit_foreign.specs.Unknown.{AddsUsed, known_type, new_type}
use Rattle.wit_foreign.proofs.unknown.add_named.Goals as goal

pub returns-in-Some : goal.returns-in-Some
returns-in-Some c =
    known_type (view.id c.args.name.now) c.in-Some.field-0 c.requires.named (subst (λ (n : ForeignName). Has c.args.known.now (n, c.in-Some.field-0)) c.new-path.ensures c.in-Some.ensures.some)

pub returns-in-None : goal.returns-in-None
returns-in-None c =
    let need = seen.need c.args.need.now in
    let types = c.args.types.now in
    on_ok c.add_type.result
    (λ r. subst (λ (b : List TypeDef). AddsUsed c.args.items.now need types c.args.known.now c.args.spans.now.items b c.add_type.new.known c.add_type.new.spans.items) (sym r.2)
    (subst (λ (es : List (ForeignName × ℕ)). AddsUsed c.args.items.now need types c.args.known.now c.args.spans.now.items (types ++ r.0 ∷ []) es c.add_type.new.spans.items)
    (sym (r.3 ∙ ap (λ (n : ForeignName). c.args.known.now ++ (n, length types) ∷ []) c.new-path.ensures))
    (subst (λ (ss : List Span). AddsUsed c.args.items.now need types c.args.known.now c.args.spans.now.items (types ++ r.0 ∷ []) (c.args.known.now ++ (foreign_name need.«package» need.item (view.id c.args.name.now), length types) ∷ []) ss) (sym r.4)
    (new_type (view.id c.args.name.now) r.0 c.interface_of.result c.requires.named (subst (λ (n : ForeignName). (j : ℕ) → Has c.args.known.now (n, j) → ⊥) c.new-path.ensures c.in-None.ensures.none) c.interface_of.ensures r.1))))
    c.add_type.ensures
