use Rattle.std.proofs.Common.{◌≡◌, Bool, sym, ap, ◌∙◌}
use Rattle.std.specs.Prelude.{◌||◌}
use Rattle.wit_lookups.specs.Names.{has}
use Rattle.wit_checked_lookups.specs.View.{texts}
use Rattle.wit_checked_lookups.proofs.NameTests.{has_texts, has_three}
use Rattle.wit_checked_lookups.proofs.members.is_known_besides.Goals as goal

pub returns : goal.returns
returns c =
    let x = c.args.name.now in
    let other : c.is_one_of-is_other.result ≡ has (texts c.args.others.now) x = c.is_one_of-is_other.ensures ∙ has_texts c.args.others.now x in
    ap (λ (b : Bool). b || c.has_name-is_known.result || c.has_name-is_item.result) other
    ∙ ap (λ (b : Bool). has (texts c.args.others.now) x || b || c.has_name-is_item.result) c.has_name-is_known.ensures
    ∙ ap (λ (b : Bool). has (texts c.args.others.now) x || has c.args.known.now x || b) c.has_name-is_item.ensures ∙ sym (has_three (texts c.args.others.now) c.args.known.now c.args.index.now.items x)
