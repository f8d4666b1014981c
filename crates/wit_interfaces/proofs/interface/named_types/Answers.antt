use Rattle.std.proofs.Common.{◌≡◌, ℕ, ◌∷◌, ◌++◌, [], None, take, sym, ap, ◌∙◌}
use Rattle.std.proofs.lemmas.List.{map_push}
use Rattle.std.specs.Prelude.{String, string_bytes, string_eq}
use Rattle.std.specs.Map.{lookup}
use Rattle.std.specs.declared.alloc.Global.{Global}
use Rattle.indexmap.proofs.CallerLemmas.{insert_entry-new}
use Rattle.wit_arena.specs.Tree.{Name}
use Rattle.wit_rules.proofs.Places.{taken}
use Rattle.wit_interfaces.specs.Interfaces.{named_types}
use Rattle.wit_interfaces.proofs.Pairs.{type_new}
use Rattle.wit_interfaces.proofs.interface.named_types.Goals as goal

pub loop-place-preserved : goal.loop-place-preserved
loop-place-preserved c =
    let name : String Global = c.in_ok-from_str.field-0 in
    let id : ℕ = c.entry-id.result.1 in
    let absent : lookup (string_eq name) c.loop-place.types.entries ≡ None =
    type_new c.loop-place.types.entries c.args.table.now c.loop-place.place c.loop-place.invariant c.requires name (c.entry-id.result.0.now, id) c.entry-id.ensures c.in_ok-from_str.ensures.ok in
    ap named_types (c.in_ok-insert.ensures.entries ∙ insert_entry-new string_eq c.loop-place.types name id absent)
    ∙ map_push (λ (e : String Global × ℕ). (string_bytes e.0, e.1)) c.loop-place.types.entries (name, id)
    ∙ ap (λ es. es ++ (string_bytes name, id) ∷ []) c.loop-place.invariant
    ∙ ap (λ (n : Name). take c.loop-place.place c.args.table.now ++ (n, id) ∷ []) c.in_ok-from_str.ensures.ok
    ∙ sym (taken c.args.table.now c.loop-place.place (c.entry-id.result.0.now, id) c.entry-id.ensures)
