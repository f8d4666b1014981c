use Rattle.std.proofs.Common.{◌≡◌, ◌++◌, ℕ, List, length, map, ap, ◌∙◌, inr, refl, arith, Bor}
use Rattle.std.proofs.lemmas.List.{length-map}
use Rattle.plain_worlds.specs.declared.world.Function.{Function}
use Rattle.plain_worlds.specs.World.{function_item}
use Rattle.wit_component.specs.Table.{needed}
use Rattle.wit_component.specs.View as view
use Rattle.wit_component.specs.Written.{written, among}
use Rattle.wit_component.proofs.Written.{items_of}
use Rattle.wit_component.proofs.WrittenComponent.{imports_are, exported_is, component_is}
use Rattle.wit_component.proofs.Numbering.{too_many}
use Rattle.wit_component.proofs.encoder.definitions_of.Goals as goal

pub returns-then-not-can_be_numbered-clause-cause : goal.returns-then-not-can_be_numbered-clause-cause
returns-then-not-can_be_numbered-clause-cause c =
    let l = view.linking c.args.linking.now in
    let needs : c.len.result ≡ length (needed l) =
    omega (arith, c.len.ensures, c.in_ok-needed.needed.ok, length-map c.in_ok-needed.needed.items (λ (f : Bor Function). function_item f.now), ap length c.in_ok-needed.ensures) in
    let offers : c.len-2.result ≡ length l.world.exports =
    omega (arith, c.len-2.ensures, c.in_ok-exported.exported.ok, length-map c.in_ok-exported.exported.items (λ (f : Bor Function). function_item f.now), ap length (c.in_ok-exported.ensures ∙ ap (λ fs. map function_item fs) c.deref.ensures.value)) in
    inr (refl, too_many l c.len.result c.len-2.result needs offers (c.can_be_numbered.ensures.cannot c.if-not-can_be_numbered.true))

pub returns-clause-found : goal.returns-clause-found
returns-clause-found c =
    let l = view.linking c.args.linking.now in
    let first = imports_are l (written c.new-out.result.items) (items_of c.deref-2.result.now) (written c.put_import_side.new.out.items) (ap written c.new-out.ensures.items) (ap items_of c.deref-2.ensures.value ∙ c.in_ok-needed.ensures) c.in_ok-put_import_side.ensures in
    let all = ap items_of c.deref-3.ensures.value ∙ c.in_ok-needed.ensures in
    let second = c.in_ok-instance.ensures.added l c.requires.places all in
    let count : c.len-3.result ≡ length (needed l) =
    omega (arith, c.len-3.ensures, c.in_ok-needed.needed.ok, length-map c.in_ok-needed.needed.items (λ (f : Bor Function). function_item f.now), ap length c.in_ok-needed.ensures) in
    let third = exported_is l c.in_ok-instance.instance c.deref-5.result.now c.len-3.result (items_of c.deref-4.result.now) (c.in_ok-instance.ensures.index l c.requires.places all)
    (ap (λ (ts : List (Bor (List ℕ))). map (λ t. t.now) ts) c.deref-5.ensures.value ∙ c.in_ok-names.ensures) count (ap items_of c.deref-4.ensures.value ∙ c.in_ok-exported.ensures ∙ ap (λ fs. map function_item fs) c.deref.ensures.value) in
    component_is l (written c.put_import_side.new.out.items) (written c.put_instance.new.out.items) (written c.put_export_side.new.out.items) first second (c.in_ok-put_export_side.ensures ∙ ap (λ ds. written c.put_instance.new.out.items ++ among ds) third)
