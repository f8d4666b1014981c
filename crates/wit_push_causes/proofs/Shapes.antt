-- What is known of types is what they say, and so is what breaks a rule.
use Rattle.std.proofs.Common.{◌≡◌, Bool, false, not, ◌||◌, List, [], ◌∷◌, ◌++◌, inl, inr, Option, Some, String, refl, sym, ap, ap₂, ◌∙◌, map}
use Rattle.std.specs.declared.alloc.Global.{Global}
use Rattle.std.specs.Prelude.{string_bytes}
use Rattle.wit_words.specs.declared.source_map.Span.{Span}
use Rattle.wit_types.specs.declared.kind.«Type».{«Type» as Ref}
use Rattle.wit_types.specs.declared.kind.«Type».TheVariants.{Id}
use Rattle.wit_types.specs.declared.kind.TypeDefKind.{TypeDefKind}
use Rattle.wit_types.specs.declared.kind.TypeDefKind.TheVariants as kind
use Rattle.wit_types.specs.declared.interface.Interface.{Interface}
use Rattle.wit_types.specs.declared.interface.TypeDef.{TypeDef}
use Rattle.wit_types.specs.declared.function.Function.{Function}
use Rattle.wit_types.specs.declared.world.WorldItem.{WorldItem}
use Rattle.wit_types.specs.declared.world.WorldItem.TheVariants as item
use Rattle.wit_types.specs.declared.world_key.WorldKey.{WorldKey}
use Rattle.wit_moves.specs.Breaks.{Breaks, AnyOf}
use Rattle.wit_plans.specs.declared.moves.MovedWorld.{MovedWorld}
use Rattle.wit_resources.specs.Natures.{a_resource, made_of, plain, holding, ref_nature, part_holds, one_holds, part_is_valid, all_valid, handle_nature, kind_nature, natures_from, natures}
use Rattle.wit_resources.specs.declared.natures.Nature.{Nature}
use Rattle.wit_shapes.specs.Shapes.{target, is_bad_handle, TypeBreaks, FunctionBreaks, ItemBreaks, SideBreaks}
use Rattle.wit_groups.specs.Passed.wit_graph_parts-Parts.{InterfaceBreaks, WorldBreaks}
use Rattle.wit_push_causes.specs.Said
use Rattle.wit_push_causes.specs.Said.{Text, Labelled, SaidKind, SaidType, SaidFunction, SaidInterface, SaidItem, SaidEntry, field_said, case_said, kind_said, type_said, function_said, interface_said, item_said, entry_said}
use Rattle.wit_push_causes.proofs.Lists.{head_of, tail_of, not_empty, map_twice, any_twice, all_twice}
use Rattle.wit_push_causes.proofs.Moving.{SaidMoved, moved_world_said}

-- ---- what is known of types

abbrev said_nature : List Nature → SaidKind → Nature
said_nature done (Said.a_record fs) = made_of (one_holds done (λ (x : Labelled Ref). Some x.of) fs) (all_valid done (λ (x : Labelled Ref). Some x.of) fs)
said_nature done Said.a_resource = a_resource
said_nature done (Said.a_handle h) = handle_nature h
said_nature done (Said.some_flags fs) = plain
said_nature done (Said.a_tuple ts) = made_of (one_holds done (λ (r : Ref). Some r) ts) (all_valid done (λ (r : Ref). Some r) ts)
said_nature done (Said.a_variant cs) = holding (one_holds done (λ (x : Labelled (Option Ref)). x.of) cs)
said_nature done (Said.an_enum cs) = plain
said_nature done (Said.an_option r) = holding (part_holds done (Some r))
said_nature done (Said.a_result a b) = holding (part_holds done a || part_holds done b)
said_nature done (Said.a_list r) = holding (part_holds done (Some r))
said_nature done (Said.a_fixed_length_list r n) = made_of (part_holds done (Some r)) (part_is_valid done (Some r))
said_nature done (Said.a_future p) = holding (part_holds done p)
said_nature done (Said.a_stream p) = holding (part_holds done p)
said_nature done (Said.an_alias r) = ref_nature done r
said_nature done Said.an_unknown = a_resource

nature_said : (done : List Nature) (k : TypeDefKind) → said_nature done (kind_said k) ≡ kind_nature done k
nature_said done (kind.Record r) =
    ap₂ made_of (any_twice field_said (λ (x : Labelled Ref). part_holds done (Some x.of)) r.fields.items) (all_twice field_said (λ (x : Labelled Ref). part_is_valid done (Some x.of)) r.fields.items)
nature_said done kind.Resource = refl
nature_said done (kind.Handle h) = refl
nature_said done (kind.Flags f) = refl
nature_said done (kind.Tuple t) = refl
nature_said done (kind.Variant v) = ap holding (any_twice case_said (λ (x : Labelled (Option Ref)). part_holds done x.of) v.cases.items)
nature_said done (kind.Enum e) = refl
nature_said done (kind.Option r) = refl
nature_said done (kind.Result r) = refl
nature_said done (kind.List r) = refl
nature_said done (kind.FixedLengthList r n) = refl
nature_said done (kind.Future p) = refl
nature_said done (kind.Stream p) = refl
nature_said done (kind.Alias r) = refl
nature_said done kind.Unknown = refl

natures_from_same : (done : List Nature) (ds es : List TypeDef) → map type_said ds ≡ map type_said es → natures_from done ds ≡ natures_from done es
natures_from_same done [] [] same = refl
natures_from_same done [] (e ∷ es) same = absurd (not_empty (type_said e) (map type_said es) same)
natures_from_same done (d ∷ ds) [] same = absurd (not_empty (type_said d) (map type_said ds) (sym same))
natures_from_same done (d ∷ ds) (e ∷ es) same =
    let first : type_said d ≡ type_said e = head_of (type_said d) (type_said e) (map type_said ds) (map type_said es) same in
    let nature : kind_nature done d.kind ≡ kind_nature done e.kind = sym (nature_said done d.kind) ∙ ap (λ (t : SaidType). said_nature done t.kind) first ∙ nature_said done e.kind in
    ap (λ (n : Nature). natures_from (done ++ n ∷ []) ds) nature
    ∙ natures_from_same (done ++ kind_nature done e.kind ∷ []) ds es (tail_of (type_said d) (type_said e) (map type_said ds) (map type_said es) same)

pub natures_same : (ds es : List TypeDef) → map type_said ds ≡ map type_said es → natures ds ≡ natures es
natures_same ds es same = natures_from_same [] ds es same

-- ---- what breaks

module _ {X Y : Type 0} (f : X → Y) (breaks : X → Breaks) (at : Span) (over : (x y : X) → f x ≡ f y → breaks x at → breaks y at) where
  any_same : (xs ys : List X) → map f xs ≡ map f ys → AnyOf breaks xs at → AnyOf breaks ys at
  any_same [] ys same h = absurd h
  any_same (x ∷ xs) [] same h = absurd (not_empty (f x) (map f xs) (sym same))
  any_same (x ∷ xs) (y ∷ ys) same (inl here) = inl (over x y (head_of (f x) (f y) (map f xs) (map f ys) same) here)
  any_same (x ∷ xs) (y ∷ ys) same (inr later) = inr (any_same xs ys (tail_of (f x) (f y) (map f xs) (map f ys) same) later)

abbrev said_bad : List Nature → SaidKind → Bool
said_bad ns (Said.a_handle h) = not (ref_nature ns (Id (target h))).is_resource
said_bad ns _ = false

bad_said : (ns : List Nature) (k : TypeDefKind) → said_bad ns (kind_said k) ≡ is_bad_handle ns k
bad_said ns (kind.Record r) = refl
bad_said ns kind.Resource = refl
bad_said ns (kind.Handle h) = refl
bad_said ns (kind.Flags f) = refl
bad_said ns (kind.Tuple t) = refl
bad_said ns (kind.Variant v) = refl
bad_said ns (kind.Enum e) = refl
bad_said ns (kind.Option r) = refl
bad_said ns (kind.Result r) = refl
bad_said ns (kind.List r) = refl
bad_said ns (kind.FixedLengthList r n) = refl
bad_said ns (kind.Future p) = refl
bad_said ns (kind.Stream p) = refl
bad_said ns (kind.Alias r) = refl
bad_said ns kind.Unknown = refl

type_breaks : (ns : List Nature) (at : Span) (d e : TypeDef) → type_said d ≡ type_said e → TypeBreaks ns d at → TypeBreaks ns e at
type_breaks ns at d e same (bad, stands) = (
  sym (bad_said ns e.kind) ∙ ap (λ (t : SaidType). said_bad ns t.kind) (sym same) ∙ bad_said ns d.kind ∙ bad,
  ap (λ (t : SaidType). t.span) (sym same) ∙ stands,
)

pub types_break : (ns : List Nature) (at : Span) (ds es : List TypeDef) → map type_said ds ≡ map type_said es → AnyOf (TypeBreaks ns) ds at → AnyOf (TypeBreaks ns) es at
types_break ns at = any_same type_said (TypeBreaks ns) at (type_breaks ns at)

function_breaks : (ns : List Nature) (at : Span) (f g : Function) → function_said f ≡ function_said g → FunctionBreaks ns f at → FunctionBreaks ns g at
function_breaks ns at f g same (holds, stands) = (
  ap (λ (s : SaidFunction). part_holds ns s.result) (sym same) ∙ holds,
  ap (λ (s : SaidFunction). s.span) (sym same) ∙ stands,
)

abbrev value : String Global × Function → Function
value e = e.1

abbrev by_text : String Global × Function → Text × SaidFunction
by_text e = (string_bytes e.0, function_said e.1)

functions_said : (es : List (String Global × Function)) → map function_said (map value es) ≡ map (λ (e : Text × SaidFunction). e.1) (map by_text es)
functions_said es = map_twice value function_said es ∙ sym (map_twice by_text (λ (e : Text × SaidFunction). e.1) es)

interface_breaks : (ns : List Nature) (at : Span) (d e : Interface) → interface_said d ≡ interface_said e → InterfaceBreaks ns d at → InterfaceBreaks ns e at
interface_breaks ns at d e same h =
    any_same function_said (FunctionBreaks ns) at (function_breaks ns at) (map value d.functions.entries) (map value e.functions.entries)
    (functions_said d.functions.entries ∙ ap (λ (s : SaidInterface). map (λ (x : Text × SaidFunction). x.1) s.functions) same ∙ sym (functions_said e.functions.entries)) h

pub interfaces_break : (ns : List Nature) (at : Span) (ds es : List Interface) → map interface_said ds ≡ map interface_said es → AnyOf (InterfaceBreaks ns) ds at → AnyOf (InterfaceBreaks ns) es at
interfaces_break ns at = any_same interface_said (InterfaceBreaks ns) at (interface_breaks ns at)

same_function : (f g : SaidFunction) → Said.a_function f ≡ Said.a_function g → f ≡ g
same_function f g e = cc

item_breaks : (ns : List Nature) (at : Span) (i j : WorldItem) → item_said i ≡ item_said j → ItemBreaks ns i at → ItemBreaks ns j at
item_breaks ns at (item.Interface i s span) j same h = absurd h
item_breaks ns at (item.TypeItem i span) j same h = absurd h
item_breaks ns at (item.Function f) (item.Interface j s span) same h = absurd cc
item_breaks ns at (item.Function f) (item.TypeItem j span) same h = absurd cc
item_breaks ns at (item.Function f) (item.Function g) same h = function_breaks ns at f g (same_function (function_said f) (function_said g) same) h

side_breaks : (ns : List Nature) (at : Span) (es fs : List (WorldKey × WorldItem)) → map entry_said es ≡ map entry_said fs → SideBreaks ns es at → SideBreaks ns fs at
side_breaks ns at = any_same entry_said (λ (e : WorldKey × WorldItem). ItemBreaks ns e.1) at (λ x y same. item_breaks ns at x.1 y.1 (ap (λ (e : SaidEntry). e.1) same))

world_breaks : (ns : List Nature) (at : Span) (m n : MovedWorld) → moved_world_said m ≡ moved_world_said n → WorldBreaks ns m at → WorldBreaks ns n at
world_breaks ns at m n same (inl h) = inl (side_breaks ns at m.imports.items n.imports.items (ap (λ (s : SaidMoved). s.imports) same) h)
world_breaks ns at m n same (inr h) = inr (side_breaks ns at m.exports.items n.exports.items (ap (λ (s : SaidMoved). s.exports) same) h)

pub worlds_break : (ns : List Nature) (at : Span) (ms ns2 : List MovedWorld) → map moved_world_said ms ≡ map moved_world_said ns2 → AnyOf (WorldBreaks ns) ms at → AnyOf (WorldBreaks ns) ns2 at
worlds_break ns at = any_same moved_world_said (WorldBreaks ns) at (world_breaks ns at)
