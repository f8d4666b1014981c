use Rattle.std.proofs.Common.{◌∙◌, ◌+◌, List, Option, refl, sym, subst, ap, map}
use Rattle.std.proofs.lemmas.List.{map_push, take_all}
use Rattle.wit_types.specs.declared.kind.«Type».{«Type» as Ref}
use Rattle.wit_arena.proofs.Rows.{there_at, goes_on, ends, labels_more, GoesOn}
use Rattle.wit_arena.proofs.definitions.bring_all.Goals as goal

pub bring-requires : goal.bring-requires
bring-requires g c κs = ((refl, tt), there_at g.T.Part.source_part c.args.table.now c.args.items.now c.loop-item.item-index c.item-item.result c.loop-item-test.true c.item-item.is c.requires)

pub loop-item-preserved : goal.loop-item-preserved
loop-item-preserved g c = record {
  labels = ap (map g.T.Part.label) c.in_ok-push.ensures.items
      ∙ labels_more g.T.Part.label g.T.Part.source_label c.loop-item.found.items c.in_ok-bring.field-0 c.args.items.now c.loop-item.item-index c.item-item.result c.loop-item-test.true c.item-item.is
      c.loop-item.invariant.labels c.in_ok-bring.ensures.label;
  types = subst (λ (f : List (Option Ref)). GoesOn g.T.Part.source_part c.args.table.now c.args.types.now c.args.items.now c.bring.new.types f (c.loop-item.item-index + 1))
      (sym (ap (map g.T.Part.part) c.in_ok-push.ensures.items ∙ map_push g.T.Part.part c.loop-item.found.items c.in_ok-bring.field-0))
      (goes_on g.T.Part.source_part c.args.table.now c.args.types.now c.args.items.now c.loop-item.types c.bring.new.types (map g.T.Part.part c.loop-item.found.items) c.loop-item.item-index c.item-item.result
      (g.T.Part.part c.in_ok-bring.field-0) c.loop-item-test.true c.item-item.is c.loop-item.invariant.types c.in_ok-bring.ensures.part);
}

pub returns-clause-labels : goal.returns-clause-labels
returns-clause-labels g c = c.loop-item.invariant.labels ∙ ap (map g.T.Part.source_label) (take_all c.loop-item.item-index c.args.items.now c.loop-item-test.false)

pub returns-clause-types : goal.returns-clause-types
returns-clause-types g c =
    ends g.T.Part.source_part c.args.table.now c.args.types.now c.args.items.now c.loop-item.types (map g.T.Part.part c.loop-item.found.items) c.loop-item.item-index c.loop-item-test.false c.loop-item.invariant.types
