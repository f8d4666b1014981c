use Rattle.std.proofs.Common.{ℕ, ◌+◌, List, [], ◌∷◌, ◌++◌, take, refl, sym, subst, ap}
use Rattle.wit_types.specs.declared.world.WorldItem.TheVariants as item
use Rattle.wit_types.specs.declared.world_key.WorldKey.TheVariants as key
use Rattle.wit_types.specs.WorldKey.{spelled}
use Rattle.wit_foreign.proofs.Passed.wit_rules-Places.{taken}
use Rattle.wit_arena.specs.Tree.{Name}
use Rattle.wit_arena.specs.Table.{Entries}
use Rattle.wit_resolved_scopes.specs.Each.{Each}
use Rattle.wit_resolved_scopes.proofs.Eaches.{each_push}
use Rattle.wit_worlds.specs.Worlds.{Entry, IsTypeEntry}
use Rattle.wit_worlds.proofs.world.type_entries.Goals as goal

pub get-requires : goal.get-requires
get-requires c = c.requires (c.entry-id.result.0.now, c.entry-id.result.1) (c.loop-place.place, c.entry-id.ensures)

pub loop-place-preserved : goal.loop-place-preserved
loop-place-preserved c =
    let table : Entries = c.args.table.now in
    let entry : Entry = (key.Name c.in_ok-name.name, item.TypeItem c.entry-id.result.1 c.get.result.now.span) in
    let one : Name × ℕ = (c.entry-id.result.0.now, c.entry-id.result.1) in
    subst (λ (es : List Entry). Each (IsTypeEntry c.args.types.now) (take (c.loop-place.place + 1) table) es) (sym c.in_ok-push.ensures.items)
    (subst (λ (ts : Entries). Each (IsTypeEntry c.args.types.now) ts (c.loop-place.entries.items ++ entry ∷ [])) (sym (taken table c.loop-place.place one c.entry-id.ensures))
    (each_push (IsTypeEntry c.args.types.now) (take c.loop-place.place table) c.loop-place.entries.items one entry c.loop-place.invariant (record { key = ap spelled c.in_ok-name.ensures.ok; def = c.get.result.now; there = c.get.ensures; item = refl })))
