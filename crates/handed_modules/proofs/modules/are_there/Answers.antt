use Rattle.std.proofs.Common.{sym, ap, ◌∙◌, map}
use Rattle.std.specs.List.{list_all}
use Rattle.std.proofs.lemmas.List.Folds.{list_all-map}
use Rattle.handed_modules.specs.Modules.{module_input, knows}
use Rattle.handed_modules.specs.Library.{ItemInput, is_known, are_known, item_input, instance_input, module_name}
use Rattle.handed_modules.proofs.modules.are_there.Goals as goal

pub returns-in-Items : goal.returns-in-Items
returns-in-Items c =
    let known = is_known (knows (map module_input c.args.modules.now) (module_input c.args.handed.now)) in
    c.are_items_there.ensures ∙ ap (list_all (λ i. known (module_name i.which))) c.deref.ensures.value
    ∙ sym (list_all-map (λ (i : ItemInput). known i.which) item_input c.in-Items.items.items)
    ∙ ap (λ i. are_known (knows (map module_input c.args.modules.now) (module_input c.args.handed.now)) (instance_input i)) (sym c.in-Items.is)
