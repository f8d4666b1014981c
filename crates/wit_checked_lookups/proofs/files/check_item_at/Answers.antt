use Rattle.std.proofs.Common.{◌≡◌, List, map, sym, ap, subst, ◌∙◌}
use Rattle.std.proofs.lemmas.Option.{same_Some, slice_get_within}
use Rattle.std.specs.Prelude.{OnOk, IfErr}
use Rattle.wit_scopes.specs.View.{item_scope}
use Rattle.wit_rules.specs.Breaks.{IsKept, IsFaultOf}
use Rattle.wit_rules.proofs.Places.{read_at}
use Rattle.wit_lookups.specs.Lookups.{ItemBreaks}
use Rattle.wit_lookups.specs.Names.{Name, item_type_names, item_file, known_at}
use Rattle.wit_checked_lookups.proofs.Items.{types_within, types_at}
use Rattle.wit_checked_lookups.proofs.NameTests.{known_here, known_nowhere}
use Rattle.wit_checked_lookups.proofs.files.check_item_at.Goals as goal

pub check_item-requires-clause-types : goal.check_item-requires-clause-types
check_item-requires-clause-types c =
    let within = slice_get_within c.args.scopes.now c.args.place c.args.item.now c.requires.there in
    same_Some c.index-types.result.now (item_type_names (item_scope c.args.item.now))
    (sym (read_at c.args.index.now.types.items c.args.place c.index-types.result.now (types_within c.args.scopes.now c.args.index.now c.requires.names c.args.place within) c.index-types.ensures)
    ∙ types_at c.args.scopes.now c.args.index.now c.requires.names c.args.place c.args.item.now c.requires.there)

pub check_item-requires-in-None-clause-types : goal.check_item-requires-in-None-clause-types
check_item-requires-in-None-clause-types c =
    let within = slice_get_within c.args.scopes.now c.args.place c.args.item.now c.requires.there in
    same_Some c.index-types.result.now (item_type_names (item_scope c.args.item.now))
    (sym (read_at c.args.index.now.types.items c.args.place c.index-types.result.now (types_within c.args.scopes.now c.args.index.now c.requires.names c.args.place within) c.index-types.ensures)
    ∙ types_at c.args.scopes.now c.args.index.now c.requires.names c.args.place c.args.item.now c.requires.there)

pub returns-in-Some-clause-ok : goal.returns-in-Some-clause-ok
returns-in-Some-clause-ok c =
    let here : known_at c.args.known.now (item_file (item_scope c.args.item.now)) ≡ c.in-Some.known.now =
    ap (known_at c.args.known.now) (sym c.item_file.ensures) ∙ known_here c.args.known.now c.item_file.result c.in-Some.known.now (read_at c.args.known.now c.item_file.result c.in-Some.known.now c.in-Some.ensures.lookup.3.0 c.in-Some.ensures.lookup.1) in
    subst (λ (ns : List Name). OnOk c.check_item.result (IsKept (ItemBreaks (map item_scope c.args.scopes.now) ns (item_scope c.args.item.now)))) (sym here) c.check_item.ensures.ok

pub returns-in-Some-clause-cause : goal.returns-in-Some-clause-cause
returns-in-Some-clause-cause c =
    let here : known_at c.args.known.now (item_file (item_scope c.args.item.now)) ≡ c.in-Some.known.now =
    ap (known_at c.args.known.now) (sym c.item_file.ensures) ∙ known_here c.args.known.now c.item_file.result c.in-Some.known.now (read_at c.args.known.now c.item_file.result c.in-Some.known.now c.in-Some.ensures.lookup.3.0 c.in-Some.ensures.lookup.1) in
    subst (λ (ns : List Name). IfErr c.check_item.result (IsFaultOf (ItemBreaks (map item_scope c.args.scopes.now) ns (item_scope c.args.item.now)))) (sym here) c.check_item.ensures.cause

pub returns-in-None-clause-ok : goal.returns-in-None-clause-ok
returns-in-None-clause-ok c =
    let here : known_at c.args.known.now (item_file (item_scope c.args.item.now)) ≡ c.new-nothing.result =
    ap (known_at c.args.known.now) (sym c.item_file.ensures) ∙ known_nowhere c.args.known.now c.item_file.result c.in-None.ensures.lookup.3 ∙ sym c.new-nothing.ensures in
    subst (λ (ns : List Name). OnOk c.check_item-in-None.result (IsKept (ItemBreaks (map item_scope c.args.scopes.now) ns (item_scope c.args.item.now)))) (sym here) c.check_item-in-None.ensures.ok

pub returns-in-None-clause-cause : goal.returns-in-None-clause-cause
returns-in-None-clause-cause c =
    let here : known_at c.args.known.now (item_file (item_scope c.args.item.now)) ≡ c.new-nothing.result =
    ap (known_at c.args.known.now) (sym c.item_file.ensures) ∙ known_nowhere c.args.known.now c.item_file.result c.in-None.ensures.lookup.3 ∙ sym c.new-nothing.ensures in
    subst (λ (ns : List Name). IfErr c.check_item-in-None.result (IsFaultOf (ItemBreaks (map item_scope c.args.scopes.now) ns (item_scope c.args.item.now)))) (sym here) c.check_item-in-None.ensures.cause
