use Rattle.std.proofs.Common.{◌≡◌, ◌∙◌, ◌+◌, ◌≤◌, List, [], ◌∷◌, ◌++◌, Option, Some, None, rules, sym, subst, ap, map}
use Rattle.std.proofs.lemmas.List.{map_push}
use denote.Param.Weighed.{most, at_most}
use Rattle.wit_types.specs.declared.kind.«Type».{«Type» as Ref}
use Rattle.wit_types.specs.declared.kind.«Type».TheVariants as ref
use Rattle.wit_types.specs.declared.kind.Handle.TheVariants as handle
use Rattle.wit_type_names.specs.Passed.wit_productions-declared-types-Type.{«Type» as Written}
use Rattle.wit_type_names.specs.Passed.wit_productions-declared-types-TypeKind-TheViews as views
use Rattle.wit_type_names.specs.Passed.wit_productions-TypeTree as written
use Rattle.wit_type_names.specs.Passed.wit_productions-TypeTree.{TypeTree, TypeShape, TypeRow, TypeOption, row, standing}
use Rattle.wit_type_names.specs.Passed.wit_productions-TypeView.{type_tree, type_shape}
use Rattle.wit_type_names.specs.Passed.wit_productions-NameView.{id}
use Rattle.wit_type_names.proofs.Passed.wit_productions-TypeViews.{list_of, fixed_length_list_of, option_of, future_of, stream_of}
use Rattle.wit_type_names.specs.TypeNames.{names_in_part, names_in_shape}
use Rattle.wit_arena.specs.Shape as shape
use Rattle.wit_arena.specs.Shape.{ShapeTree, shape_of}
use Rattle.wit_arena.specs.Lower.{AreThere, IsResult, err_part, Lowers, LowersShape, LowersPart, LowersParts, lowers_primitive, lowers_name, lowers_composed, lowers_list, lowers_fixed_length_list, lowers_option, lowers_tuple, lowers_result, lowers_own, lowers_borrow, lowers_future, lowers_stream, lowers_nothing, lowers_a_type}
use Rattle.wit_type_names.specs.TypeView.{part_tree, type_part}
use Rattle.wit_arena.proofs.Lists.{has_right}
use Rattle.wit_type_names.proofs.TypeViews.{name_of, own_of, borrow_of, tuple_of, result_of, tree_of}
use Rattle.wit_arena.proofs.Rows.{row_parts, row_names, there_at, goes_on, ends, GoesOn}
use Rattle.wit_arena.proofs.lowering.+lower.Goals as goal

pub lower-returns-in-Some : goal.lower-returns-in-Some
lower-returns-in-Some t c =
    subst (λ (w : TypeTree). Lowers c.args.table.now c.args.types.now w c.args.types.now c.in-Some.ty) (sym (tree_of c.args.ty.now))
    (lowers_primitive c.args.types.now c.args.ty.now.span (type_shape c.args.ty.now.kind) c.in-Some.ty (sym c.primitive.ensures ∙ c.in-Some.is))

pub lower-returns-in-Name : goal.lower-returns-in-Name
lower-returns-in-Name t c =
    let e = ap type_shape c.in-Name.is ∙ name_of c.in-Name.name in
    subst (λ (w : TypeTree). Lowers c.args.table.now c.args.types.now w c.args.types.now (ref.Id c.id_of.result)) (sym (tree_of c.args.ty.now))
    (subst (λ (s : TypeShape). Lowers c.args.table.now c.args.types.now (standing c.args.ty.now.span s) c.args.types.now (ref.Id c.id_of.result)) (sym e)
    (lowers_name c.args.types.now c.args.ty.now.span (id c.in-Name.name) c.id_of.result c.id_of.ensures))

pub lower-returns : goal.lower-returns
lower-returns t c =
    subst (λ (w : TypeTree). Lowers c.args.table.now c.args.types.now w c.intern.new.self c.in_ok-ty.ty) (sym (tree_of c.args.ty.now))
    (lowers_composed c.args.types.now c.lower_shape.new.types c.intern.new.self c.args.ty.now.span (type_shape c.args.ty.now.kind) (shape_of c.in_ok-shape.shape) c.in_ok-ty.ty c.in_ok-shape.ensures c.in_ok-ty.ensures.ok)

pub lower_part-returns-in_ok-lower-in-Some : goal.lower_part-returns-in_ok-lower-in-Some
lower_part-returns-in_ok-lower-in-Some t c =
    let r : Ref = c.in_ok-lower-in-Some.field-0 in
    subst (λ (p : Option _). LowersPart c.args.table.now c.args.types.now (part_tree p) c.lower.new.types (Some r)) (sym c.in-Some.is)
    (lowers_a_type c.args.types.now c.lower.new.types (type_tree c.in-Some.ty.value) r
    (subst (λ (w : Written). Lowers c.args.table.now c.args.types.now (type_tree w) c.lower.new.types r) c.deref.ensures c.in_ok-lower-in-Some.ensures))

pub lower_part-returns-in-None : goal.lower_part-returns-in-None
lower_part-returns-in-None t c =
    subst (λ (p : Option _). LowersPart c.args.table.now c.args.types.now (part_tree p) c.args.types.now None) (sym c.in-None.is) (lowers_nothing c.args.types.now)

pub lower_row-lower-requires : goal.lower_row-lower-requires
lower_row-lower-requires t c =
    let m : views.size-Type c.part-item.result ≤ most views.size-Type c.args.parts.now =
    subst (λ (w : Written). views.size-Type w ≤ most views.size-Type c.args.parts.now) (sym c.part-item.is) (at_most views.size-Type c.args.parts.now c.loop-part.part-index c.part-item.result c.loop-part-test.true) in (
      search (rules, m),
      there_at type_part c.args.table.now c.args.parts.now c.loop-part.part-index c.part-item.result c.loop-part-test.true c.part-item.is
          (subst (AreThere c.args.table.now) (row_names c.args.parts.now) c.requires),
    )

pub lower_row-loop-part-preserved : goal.lower_row-loop-part-preserved
lower_row-loop-part-preserved t c =
    let found : map (λ r. Some r) c.push.new.self.items ≡ map (λ r. Some r) c.loop-part.found.items ++ Some c.in_ok-lower.field-0 ∷ [] =
    ap (map (λ (r : Ref). Some r)) c.in_ok-push.ensures.items ∙ map_push (λ (r : Ref). Some r) c.loop-part.found.items c.in_ok-lower.field-0 in
    subst (λ (f : List (Option Ref)). GoesOn type_part c.args.table.now c.args.types.now c.args.parts.now c.lower.new.types f (c.loop-part.part-index + 1)) (sym found)
    (goes_on type_part c.args.table.now c.args.types.now c.args.parts.now c.loop-part.types c.lower.new.types (map (λ r. Some r) c.loop-part.found.items) c.loop-part.part-index c.part-item.result (Some c.in_ok-lower.field-0)
    c.loop-part-test.true c.part-item.is c.loop-part.invariant (lowers_a_type c.loop-part.types c.lower.new.types (type_tree c.part-item.result) c.in_ok-lower.field-0 c.in_ok-lower.ensures))

pub lower_row-returns : goal.lower_row-returns
lower_row-returns t c =
    ends type_part c.args.table.now c.args.types.now c.args.parts.now c.loop-part.types (map (λ r. Some r) c.loop-part.found.items) c.loop-part.part-index c.loop-part-test.false c.loop-part.invariant

pub lower_shape-returns-in-Own : goal.lower_shape-returns-in-Own
lower_shape-returns-in-Own t c =
    let e = ap type_shape c.in-Own.is ∙ own_of c.in-Own.name in
    subst (λ (s : TypeShape). LowersShape c.args.table.now c.args.types.now s c.args.types.now (shape.handle (handle.Own c.id_of.result))) (sym e)
    (lowers_own c.args.types.now (id c.in-Own.name) c.id_of.result c.id_of.ensures)

pub lower_shape-returns-in-Borrow : goal.lower_shape-returns-in-Borrow
lower_shape-returns-in-Borrow t c =
    let e = ap type_shape c.in-Borrow.is ∙ borrow_of c.in-Borrow.name in
    subst (λ (s : TypeShape). LowersShape c.args.table.now c.args.types.now s c.args.types.now (shape.handle (handle.Borrow c.id_of-in-Borrow.result))) (sym e)
    (lowers_borrow c.args.types.now (id c.in-Borrow.name) c.id_of-in-Borrow.result c.id_of-in-Borrow.ensures)

pub lower_shape-returns-in_ok-lower-in-List : goal.lower_shape-returns-in_ok-lower-in-List
lower_shape-returns-in_ok-lower-in-List t c =
    let r : Ref = c.in_ok-lower-in-List.field-0 in
    let e = ap type_shape c.in-List.is ∙ list_of c.in-List.part in
    let low : Lowers c.args.table.now c.args.types.now (type_tree c.in-List.part.value) c.lower.new.types r =
    subst (λ (w : Written). Lowers c.args.table.now c.args.types.now (type_tree w) c.lower.new.types r) c.deref.ensures c.in_ok-lower-in-List.ensures in
    subst (λ (s : TypeShape). LowersShape c.args.table.now c.args.types.now s c.lower.new.types (shape.list r)) (sym e)
    (lowers_list c.args.types.now c.lower.new.types (type_tree c.in-List.part.value) r low)

pub lower_shape-returns-in_ok-lower-in-FixedLengthList : goal.lower_shape-returns-in_ok-lower-in-FixedLengthList
lower_shape-returns-in_ok-lower-in-FixedLengthList t c =
    let r : Ref = c.in_ok-lower-in-FixedLengthList.field-0 in
    let e = ap type_shape c.in-FixedLengthList.is ∙ fixed_length_list_of c.in-FixedLengthList.part c.in-FixedLengthList.length in
    let low : Lowers c.args.table.now c.args.types.now (type_tree c.in-FixedLengthList.part.value) c.lower-in-FixedLengthList.new.types r =
    subst (λ (w : Written). Lowers c.args.table.now c.args.types.now (type_tree w) c.lower-in-FixedLengthList.new.types r) c.deref-in-FixedLengthList.ensures c.in_ok-lower-in-FixedLengthList.ensures in
    subst (λ (s : TypeShape). LowersShape c.args.table.now c.args.types.now s c.lower-in-FixedLengthList.new.types (shape.fixed_length_list r c.in-FixedLengthList.length)) (sym e)
    (lowers_fixed_length_list c.args.types.now c.lower-in-FixedLengthList.new.types (type_tree c.in-FixedLengthList.part.value) c.in-FixedLengthList.length r low)

pub lower_shape-returns-in_ok-lower-in-Option : goal.lower_shape-returns-in_ok-lower-in-Option
lower_shape-returns-in_ok-lower-in-Option t c =
    let r : Ref = c.in_ok-lower-in-Option.field-0 in
    let e = ap type_shape c.in-Option.is ∙ option_of c.in-Option.part in
    let low : Lowers c.args.table.now c.args.types.now (type_tree c.in-Option.part.value) c.lower-in-Option.new.types r =
    subst (λ (w : Written). Lowers c.args.table.now c.args.types.now (type_tree w) c.lower-in-Option.new.types r) c.deref-in-Option.ensures c.in_ok-lower-in-Option.ensures in
    subst (λ (s : TypeShape). LowersShape c.args.table.now c.args.types.now s c.lower-in-Option.new.types (shape.option r)) (sym e)
    (lowers_option c.args.types.now c.lower-in-Option.new.types (type_tree c.in-Option.part.value) r low)

pub lower_shape-returns-in_ok-lower_row-in-Tuple : goal.lower_shape-returns-in_ok-lower_row-in-Tuple
lower_shape-returns-in_ok-lower_row-in-Tuple t c =
    let rs : List Ref = c.in_ok-lower_row-in-Tuple.field-0.items in
    let e = ap type_shape c.in-Tuple.is ∙ tuple_of c.in-Tuple.parts in
    let low : LowersParts c.args.table.now c.args.types.now (map type_part c.in-Tuple.parts.items) c.lower_row.new.types (map (λ r. Some r) rs) =
    subst (λ (w : List Written). LowersParts c.args.table.now c.args.types.now (map type_part w) c.lower_row.new.types (map (λ r. Some r) rs)) c.as_slice.ensures.value c.in_ok-lower_row-in-Tuple.ensures in
    subst (λ (s : TypeShape). LowersShape c.args.table.now c.args.types.now s c.lower_row.new.types (shape.tuple rs)) (sym e)
    (lowers_tuple c.args.types.now c.lower_row.new.types (row (map type_tree c.in-Tuple.parts.items)) rs
    (subst (λ (ps : List TypeOption). LowersParts c.args.table.now c.args.types.now ps c.lower_row.new.types (map (λ r. Some r) rs)) (sym (row_parts c.in-Tuple.parts.items)) low))

pub lower_shape-returns-in_ok-lower_part-in-Future : goal.lower_shape-returns-in_ok-lower_part-in-Future
lower_shape-returns-in_ok-lower_part-in-Future t c =
    let r : Option Ref = c.in_ok-lower_part-in-Future.field-0 in
    let e = ap type_shape c.in-Future.is ∙ future_of c.in-Future.part in
    subst (λ (s : TypeShape). LowersShape c.args.table.now c.args.types.now s c.lower_part-in-Future.new.types (shape.future r)) (sym e)
    (lowers_future c.args.types.now c.lower_part-in-Future.new.types (part_tree c.in-Future.part) r c.in_ok-lower_part-in-Future.ensures)

pub lower_shape-returns-in_ok-lower_part-in-Stream : goal.lower_shape-returns-in_ok-lower_part-in-Stream
lower_shape-returns-in_ok-lower_part-in-Stream t c =
    let r : Option Ref = c.in_ok-lower_part-in-Stream.field-0 in
    let e = ap type_shape c.in-Stream.is ∙ stream_of c.in-Stream.part in
    subst (λ (s : TypeShape). LowersShape c.args.table.now c.args.types.now s c.lower_part-in-Stream.new.types (shape.stream r)) (sym e)
    (lowers_stream c.args.types.now c.lower_part-in-Stream.new.types (part_tree c.in-Stream.part) r c.in_ok-lower_part-in-Stream.ensures)

pub lower_shape-lower_err-requires : goal.lower_shape-lower_err-requires
lower_shape-lower_err-requires t c = (
  search rules,
  (let e : type_shape c.args.kind.now ≡ written.result (part_tree c.in-Result.ok) (part_tree c.in-Result.err) = ap type_shape c.in-Result.is ∙ result_of c.in-Result.ok c.in-Result.err in (
    subst IsResult (sym e) tt,
    subst (λ (s : TypeShape). AreThere c.args.table.now (names_in_part (err_part s))) (sym e)
        (λ n has. subst (λ (s : TypeShape). AreThere c.args.table.now (names_in_shape s)) e c.requires.names n (has_right (names_in_part (part_tree c.in-Result.ok)) (names_in_part (part_tree c.in-Result.err)) n has)),
  )),
)

pub lower_shape-returns-in_ok-err-in-Result : goal.lower_shape-returns-in_ok-err-in-Result
lower_shape-returns-in_ok-err-in-Result t c =
    let ok : Option Ref = c.in_ok-ok-in-Result.ok in
    let err : Option Ref = c.in_ok-err-in-Result.err in
    let e : type_shape c.args.kind.now ≡ written.result (part_tree c.in-Result.ok) (part_tree c.in-Result.err) = ap type_shape c.in-Result.is ∙ result_of c.in-Result.ok c.in-Result.err in
    let low : LowersPart c.args.table.now c.lower_part.new.types (part_tree c.in-Result.err) c.lower_err.new.types err =
    subst (λ (s : TypeShape). LowersPart c.args.table.now c.lower_part.new.types (err_part s) c.lower_err.new.types err) e c.in_ok-err-in-Result.ensures in
    subst (λ (s : TypeShape). LowersShape c.args.table.now c.args.types.now s c.lower_err.new.types (shape.result ok err)) (sym e)
    (lowers_result c.args.types.now c.lower_part.new.types c.lower_err.new.types (part_tree c.in-Result.ok) (part_tree c.in-Result.err) ok err c.in_ok-ok-in-Result.ensures low)
