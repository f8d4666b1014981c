use Rattle.std.proofs.Common.{◌≡◌, ◌++◌, [], drop, map, ap, sym, ◌∙◌, append-nil, arith}
use Rattle.std.proofs.lemmas.List.{drop_all}
use Rattle.component_value_types.specs.Names.{named_value}
use Rattle.known_definitions.specs.Known.{named_function}
use Rattle.wit_component.proofs.Written.{items_of}
use Rattle.wit_component.proofs.WrittenLinks.{given_from, given_is}
use Rattle.wit_component.proofs.encoder.inline_exports.Goals as goal

pub returns : goal.returns
returns c = λ l place same all.
    let fs = c.args.functions.now in
    let found = map (named_value (λ x. x)) c.loop-place.found.items in
    let none : drop c.loop-place.place fs ≡ [] = drop_all c.loop-place.place fs (omega arith) in
    sym (append-nil found) ∙ sym (ap (λ gs. found ++ map named_function (given_from c.args.imported.now c.loop-place.place (items_of gs))) none)
    ∙ c.loop-place.invariant ∙ ap (map named_function) (given_is l place c.args.imported.now (items_of fs) same all)
