use Rattle.std.proofs.Common.{◌≡◌, ◌∙◌, None, sym}
use Rattle.std.proofs.lemmas.Slice.Eq.{bytes_eq-Decides}
use Rattle.std.specs.Prelude.{string_bytes, string_eq}
use Rattle.std.specs.Map.{lookup}
use Rattle.indexmap.proofs.CallerLemmas.{insert_entry-new}
use Rattle.wit_foreign.proofs.Depending.{not_found}
use Rattle.wit_foreign.proofs.deps.add_item.Goals as goal

pub returns : goal.returns
returns c =
    let absent : lookup (string_eq c.in_ok-name.name) c.args.deps.now.entries ≡ None =
    not_found (string_eq c.in_ok-name.name) c.args.deps.now.entries
    (λ e has t. c.requires.new e has (sym ((bytes_eq-Decides (string_bytes c.in_ok-name.name) (string_bytes e.0)).0 t) ∙ c.in_ok-name.ensures.ok)) in (
      (c.in_ok-name.name, (c.item_of.result, c.in_ok-stabilities.stabilities)),
      record { name = c.in_ok-name.ensures.ok; item = c.item_of.ensures; stabilities = c.in_ok-stabilities.ensures },
      c.in_ok-insert.ensures.entries ∙ insert_entry-new string_eq c.args.deps.now c.in_ok-name.name (c.item_of.result, c.in_ok-stabilities.stabilities) absent,
    )
