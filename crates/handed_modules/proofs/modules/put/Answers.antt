use Rattle.std.proofs.Common.{◌≡◌, sym, ap, ◌∙◌, [], ◌∷◌, ◌++◌, map}
use Rattle.std.specs.Prelude.{position}
use Rattle.handed_modules.specs.Modules.{module_input, with_module}
use Rattle.handed_modules.proofs.Lists.{replaced, put_in, put_last}
use Rattle.handed_modules.proofs.modules.put.Goals as goal

pub returns-in-Some-clause-ok : goal.returns-in-Some-clause-ok
returns-in-Some-clause-ok c =
    let m = c.args.handed in
    let items = c.reserve.ensures.items in
    put_in m c.reserve.new.self.items c.in-Some.place (ap (position (replaced m)) (sym c.deref.ensures.value) ∙ sym c.place_of.ensures ∙ c.in-Some.is) ∙ ap (λ ms. with_module (module_input m) (map module_input ms)) items

pub returns-in-None-clause-ok : goal.returns-in-None-clause-ok
returns-in-None-clause-ok c =
    let m = c.args.handed in
    let items = c.reserve.ensures.items in
    let pushed : c.push.new.self.items ≡ c.reserve.new.self.items ++ m ∷ [] = rw c.unwrap.ensures at c.push.ensures.items in
    ap (map module_input) pushed ∙ put_last m c.reserve.new.self.items (ap (position (replaced m)) (sym c.deref.ensures.value) ∙ sym c.place_of.ensures ∙ c.in-None.is)
    ∙ ap (λ ms. with_module (module_input m) (map module_input ms)) items
