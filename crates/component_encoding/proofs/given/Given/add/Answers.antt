use Rattle.std.proofs.Common.{◌∙◌, ◌++◌, ◌∷◌, ◌<◌, [], sym, ap, subst, map}
use Rattle.std.proofs.Math.Seq.{map-set_same}
use Rattle.std.proofs.lemmas.List.{map-append}
use Rattle.std.proofs.lemmas.Result.{on_ok_weaker}
use Rattle.component_value_types.specs.Names.{named_value}
use Rattle.component_encoding.specs.Given.{under_value, core_function}
use Rattle.component_encoding.specs.declared.given.Group.{Group}
use Rattle.component_encoding.proofs.Groups.{group_below, one_more, one_new}
use Rattle.component_encoding.proofs.given.Given.add.Goals as goal

pub index_mut-group-requires : goal.index_mut-group-requires
index_mut-group-requires c = subst (λ n. c.in-Some.place < n) (sym c.args.self.now.groups.ok.0) (group_below c.args.text.now c.args.self.now.places c.args.self.now.groups.items c.in-Some.place c.args.self.now.texts c.in-Some.ensures)

pub invariant_of-self : goal.invariant_of-self
invariant_of-self c =
    let gs = c.args.self.now.groups.items in
    let old = c.index_mut-group.result.now in
    let new : Group = record { text = old.text; items = c.push.new.self } in
    record { texts = c.args.self.now.texts ∙ sym (map-set_same (λ (g : Group). g.text.now) gs c.in-Some.place new old (ap (λ (g : Group). g.text.now) c.index_mut-group.ensures.value)) }

pub returns-in_ok-push-in-Some : goal.returns-in_ok-push-in-Some
returns-in_ok-push-in-Some c =
    let old = c.index_mut-group.result.now in
    let new : Group = record { text = old.text; items = c.push.new.self } in
    one_more c.args.text.now c.args.self.now.places c.args.self.now.groups.items c.in-Some.place old new (core_function c.args.name.now c.args.index) c.args.self.now.texts c.in-Some.ensures c.index_mut-group.ensures.value
    (ap (λ l. record { text = old.text.now; items = l })
    (ap (map (named_value (λ x. x))) c.in_ok-push-in-Some.ensures.items
    ∙ map-append (named_value (λ x. x)) old.items.items (c.named.result ∷ [])
    ∙ ap (λ x. map (named_value (λ y. y)) old.items.items ++ x ∷ []) c.named.ensures))

pub returns-in-None : goal.returns-in-None
returns-in-None c =
    on_ok_weaker c.push-in-None.result (λ e.
    e ∙ ap (λ x. map under_value c.args.self.now.groups.items ++ record { text = c.args.text.now; items = x ∷ [] } ∷ []) c.named-in-None.ensures
    ∙ one_new c.args.text.now c.args.self.now.places c.args.self.now.groups.items (core_function c.args.name.now c.args.index) c.args.self.now.texts c.in-None.ensures) c.push-in-None.ensures
