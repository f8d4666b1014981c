-- What a package asks for stands at the same places in graphs that say the same.
use Rattle.std.proofs.Common.{◌≡◌, ℕ, Bool, cond, List, [], ◌∷◌, ◌++◌, inl, inr, Option, Some, None, String, refl, sym, ap, ap₂, subst, ◌∙◌, map, option_map, append_assoc}
use Rattle.std.proofs.lemmas.Option.{same_Some}
use Rattle.std.specs.Map.{lookup}
use Rattle.std.specs.Prelude.{slice_get, string_bytes, bytes_eq, if◌then◌else◌}
use Rattle.std.specs.declared.alloc.Global.{Global}
use Rattle.wit_words.specs.declared.source_map.Span.{Span}
use Rattle.wit_order.specs.Order.{Has}
use Rattle.wit_types.specs.declared.interface.Interface.{Interface}
use Rattle.wit_types.specs.declared.interface.TypeDef.{TypeDef}
use Rattle.wit_types.specs.declared.interface.TypeOwner.{TypeOwner}
use Rattle.wit_types.specs.declared.interface.TypeOwner.TheVariants as belongs
use Rattle.wit_types.specs.declared.world.World.{World}
use Rattle.wit_types.specs.declared.«package».AstItem.{AstItem}
use Rattle.wit_types.specs.declared.«package».AstItem.TheVariants as asked
use Rattle.wit_types.specs.declared.«package».Package.{Package}
use Rattle.wit_types.specs.declared.«package».PackageName.{PackageName}
use Rattle.wit_types.specs.declared.«package».UnresolvedPackage.{UnresolvedPackage}
use Rattle.wit_features.specs.Features.{FeatureSet}
use Rattle.wit_moves.specs.Moved.{Places, place_of}
use Rattle.wit_moves.specs.Plan.{OwnerPlaces, TypesBreak, AreTypesPlaced}
use Rattle.wit_finding.specs.Places.{interface_pairs, world_pairs, ArePlaced}
use Rattle.wit_finding.specs.Asks.{Ask, ItemEntry, ask, asks_of, asks_at, asks_in, items_of, is_kept, interface_in, world_in, item_in, other_in, finds, pair_of, found_by, IsMissingAt, AskBreaks}
use Rattle.wit_finding.specs.Foreign.{asks_of_package, counts_of, AreForeignPlaces, ItemsBreak}
use Rattle.wit_finding.specs.Types.{type_in, interface_at, interface_of, type_found}
use Rattle.wit_plans.specs.Plans.{Parts, owners_of, found_of, IsPlanned, PlanBreaks, type_breaks, part_breaks}
use Rattle.wit_plans.specs.declared.plans.Sizes.{Sizes}
use Rattle.wit_push_causes.specs.Said.{Text, SaidPackage, SaidInterface, names_said, package_said, interface_said}
use Rattle.wit_push_causes.proofs.Lists.{same_get}

-- ---- tables of names

found_under : (b : Bool) (i : ℕ) (o p : Option ℕ) → o ≡ p → cond b (Some i) o ≡ cond b (Some i) p
found_under b i o p e = ap (cond b (Some i)) e

named : (name : Text) (es : List (String Global × ℕ)) → lookup (bytes_eq name) (names_said es) ≡ lookup (λ (n : String Global). bytes_eq name (string_bytes n)) es
named name [] = refl
named name (e ∷ es) = found_under (bytes_eq name (string_bytes e.0)) e.1 (lookup (bytes_eq name) (names_said es)) (lookup (λ (n : String Global). bytes_eq name (string_bytes n)) es) (named name es)

named_same : (name : Text) (es fs : List (String Global × ℕ)) → names_said es ≡ names_said fs → lookup (λ (n : String Global). bytes_eq name (string_bytes n)) es ≡ lookup (λ (n : String Global). bytes_eq name (string_bytes n)) fs
named_same name es fs same = sym (named name es) ∙ ap (lookup (bytes_eq name)) same ∙ named name fs

module _ (q r : Package) (same : package_said q ≡ package_said r) (name : Text) where
  interface_same : interface_in q name ≡ interface_in r name
  interface_same = named_same name q.interfaces.entries r.interfaces.entries (ap (λ (s : SaidPackage). s.interfaces) same)

  world_same : world_in q name ≡ world_in r name
  world_same = named_same name q.worlds.entries r.worlds.entries (ap (λ (s : SaidPackage). s.worlds) same)

  item_same : (i : AstItem) → item_in q name i ≡ item_in r name i
  item_same (asked.Interface i) = ap (option_map asked.Interface) interface_same
  item_same (asked.World i) = ap (option_map asked.World) world_same

  other_same : (i : AstItem) → other_in q name i ≡ other_in r name i
  other_same (asked.Interface i) = ap (option_map asked.World) world_same
  other_same (asked.World i) = ap (option_map asked.Interface) interface_same

-- ---- what is asked for

abbrev of_other : Package → Ask → Ask
of_other r a = record a { «package» = r }

found_append : (features : FeatureSet) (xs ys : List Ask) → found_by features (xs ++ ys) ≡ found_by features xs ++ found_by features ys
found_append features [] ys = refl
found_append features (a ∷ xs) ys =
    ap (λ (l : List (AstItem × AstItem)). pair_of a.item (finds features a) ++ l) (found_append features xs ys)
    ∙ sym (append_assoc (pair_of a.item (finds features a)) (found_by features xs) (found_by features ys))

module _ (features : FeatureSet) (q r : Package) (same : package_said q ≡ package_said r) where
  of_found : (es : List ItemEntry) → found_by features (asks_of q es) ≡ found_by features (asks_of r es)
  of_found [] = refl
  of_found (e ∷ es) =
      ap₂ (λ (o : Option AstItem) (l : List (AstItem × AstItem)). pair_of e.1.0 (if is_kept features (ask q (string_bytes e.0) e.1.0 e.1.1.items) then o else None) ++ l) (item_same q r same (string_bytes e.0) e.1.0) (of_found es)

  of_missing : (interfaces : List Interface) (worlds : List World) (at : Span) (a : Ask) (es : List ItemEntry) → Has (asks_of q es) a → IsMissingAt features interfaces worlds a at → (b : Ask) × Has (asks_of r es) b × IsMissingAt features interfaces worlds b at
  of_missing interfaces worlds at a [] h m = absurd h
  of_missing interfaces worlds at a (e ∷ es) (inl here) m =
      let mine : IsMissingAt features interfaces worlds (ask q (string_bytes e.0) e.1.0 e.1.1.items) at = subst (λ (b : Ask). IsMissingAt features interfaces worlds b at) here m in (
        ask r (string_bytes e.0) e.1.0 e.1.1.items,
        inl refl,
        (mine.0, sym (item_same q r same (string_bytes e.0) e.1.0) ∙ mine.1, sym (other_same q r same (string_bytes e.0) e.1.0) ∙ mine.2, mine.3),
      )
  of_missing interfaces worlds at a (e ∷ es) (inr later) m = (let k = of_missing interfaces worlds at a es later m in (k.0, inr k.1, k.2))

at_found : (features : FeatureSet) (o p : Option Package) → option_map package_said o ≡ option_map package_said p → (es : List ItemEntry) → found_by features (asks_at o es) ≡ found_by features (asks_at p es)
at_found features None None same es = refl
at_found features None (Some r) same es = absurd cc
at_found features (Some q) None same es = absurd cc
at_found features (Some q) (Some r) same es = of_found features q r (same_Some (package_said q) (package_said r) same) es

at_missing : (features : FeatureSet) (o p : Option Package) → option_map package_said o ≡ option_map package_said p → (interfaces : List Interface) (worlds : List World) (at : Span) (a : Ask) (es : List ItemEntry) → Has (asks_at o es) a
    → IsMissingAt features interfaces worlds a at → (b : Ask) × Has (asks_at p es) b × IsMissingAt features interfaces worlds b at
at_missing features None p same interfaces worlds at a es h m = absurd h
at_missing features (Some q) None same interfaces worlds at a es h m = absurd cc
at_missing features (Some q) (Some r) same interfaces worlds at a es h m = of_missing features q r (same_Some (package_said q) (package_said r) same) interfaces worlds at a es h m

has_front : {X : Type 0} (xs ys : List X) (x : X) → Has xs x → Has (xs ++ ys) x
has_front [] ys x h = absurd h
has_front (z ∷ xs) ys x (inl here) = inl here
has_front (z ∷ xs) ys x (inr later) = inr (has_front xs ys x later)

has_behind : {X : Type 0} (xs ys : List X) (x : X) → Has ys x → Has (xs ++ ys) x
has_behind [] ys x h = h
has_behind (z ∷ xs) ys x h = inr (has_behind xs ys x h)

has_either : {X Z : Type 0} (xs ys : List X) (x : X) → (Has xs x → Z) → (Has ys x → Z) → Has (xs ++ ys) x → Z
has_either [] ys x f g h = g h
has_either (z ∷ xs) ys x f g (inl here) = f (inl here)
has_either (z ∷ xs) ys x f g (inr later) = has_either xs ys x (λ k. f (inr k)) g later

module _ (features : FeatureSet) (qs rs : List Package) (same : map package_said qs ≡ map package_said rs) where
  in_found : (ids : List ℕ) (ds : List (List ItemEntry)) → found_by features (asks_in qs ids ds) ≡ found_by features (asks_in rs ids ds)
  in_found [] ds = refl
  in_found (i ∷ ids) [] = refl
  in_found (i ∷ ids) (d ∷ ds) =
      found_append features (asks_at (slice_get qs i) d) (asks_in qs ids ds)
      ∙ ap₂ (λ (a b : List (AstItem × AstItem)). a ++ b) (at_found features (slice_get qs i) (slice_get rs i) (same_get package_said qs rs same i) d) (in_found ids ds)
      ∙ sym (found_append features (asks_at (slice_get rs i) d) (asks_in rs ids ds))

  in_missing : (interfaces : List Interface) (worlds : List World) (at : Span) (a : Ask) (ids : List ℕ) (ds : List (List ItemEntry)) → Has (asks_in qs ids ds) a → IsMissingAt features interfaces worlds a at
      → (b : Ask) × Has (asks_in rs ids ds) b × IsMissingAt features interfaces worlds b at
  in_missing interfaces worlds at a [] ds h m = absurd h
  in_missing interfaces worlds at a (i ∷ ids) [] h m = absurd h
  in_missing interfaces worlds at a (i ∷ ids) (d ∷ ds) h m =
      has_either (asks_at (slice_get qs i) d) (asks_in qs ids ds) a
      (λ here. (let k = at_missing features (slice_get qs i) (slice_get rs i) (same_get package_said qs rs same i) interfaces worlds at a d here m in (k.0, has_front (asks_at (slice_get rs i) d) (asks_in rs ids ds) k.0 k.1, k.2)))
      (λ later. (let k = in_missing interfaces worlds at a ids ds later m in (k.0, has_behind (asks_at (slice_get rs i) d) (asks_in rs ids ds) k.0 k.1, k.2)))
      h

  in_breaks : (interfaces : List Interface) (worlds : List World) (at : Span) (ids : List ℕ) (ds : List (List ItemEntry)) → AskBreaks features interfaces worlds (asks_in qs ids ds) at → AskBreaks features interfaces worlds (asks_in rs ids ds) at
  in_breaks interfaces worlds at ids ds b = (let k = in_missing interfaces worlds at b.ask ids ds b.there b.missing in record { ask = k.0; there = k.1; missing = k.2 })

module _ (eq : PackageName → PackageName → Bool) (features : FeatureSet) (names : List (PackageName × ℕ)) (p : UnresolvedPackage) (qs rs : List Package) (same : map package_said qs ≡ map package_said rs) where
  pub foreign_other : (interfaces worlds : Places) → AreForeignPlaces eq features names qs p interfaces worlds → AreForeignPlaces eq features names rs p interfaces worlds
  foreign_other interfaces worlds a =
      let deps = items_of p.foreign_deps.entries in
      let found : found_by features (asks_of_package qs a.ids p) ≡ found_by features (asks_of_package rs a.ids p) = in_found features qs rs same a.ids deps in
      record {
        ids = a.ids;
        named = a.named;
        interfaces_are = subst (λ (l : List (AstItem × AstItem)). ArePlaced (interface_pairs l) (counts_of deps).interfaces interfaces) found a.interfaces_are;
        worlds_are = subst (λ (l : List (AstItem × AstItem)). ArePlaced (world_pairs l) (counts_of deps).worlds worlds) found a.worlds_are;
        kept = λ at b. a.kept at (in_breaks features rs qs (sym same) p.interfaces p.worlds at a.ids deps b);
      }

  pub items_break_other : (at : Span) → ItemsBreak eq features names qs p at → ItemsBreak eq features names rs p at
  items_break_other at b = record { ids = b.ids; named = b.named; breaks = in_breaks features qs rs same p.interfaces p.worlds at b.ids (items_of p.foreign_deps.entries) b.breaks }

-- ---- types that are asked for

type_same : (o p : Option Interface) (x : Option (String Global)) → option_map interface_said o ≡ option_map interface_said p → type_in o x ≡ type_in p x
type_same None None x same = refl
type_same None (Some e) x same = absurd cc
type_same (Some d) None x same = absurd cc
type_same (Some d) (Some e) None same = refl
type_same (Some d) (Some e) (Some x) same = named_same (string_bytes x) d.types.entries e.types.entries (ap (λ (s : SaidInterface). s.types) (same_Some (interface_said d) (interface_said e) same))

module _ (ds es : List Interface) (same : map interface_said ds ≡ map interface_said es) where
  at_same : (o : Option ℕ) → option_map interface_said (interface_at ds o) ≡ option_map interface_said (interface_at es o)
  at_same None = refl
  at_same (Some i) = same_get interface_said ds es same i

  of_same : (places : Places) (o : TypeOwner) → option_map interface_said (interface_of ds places o) ≡ option_map interface_said (interface_of es places o)
  of_same places (belongs.Interface i) = at_same (place_of places i)
  of_same places (belongs.World w) = refl
  of_same places belongs.None = refl

  types_found : (places : Places) (ts : List TypeDef) → map (type_found ds places) ts ≡ map (type_found es places) ts
  types_found places [] = refl
  types_found places (t ∷ ts) =
      ap₂ (λ (o : Option ℕ) (l : Places). o ∷ l) (type_same (interface_of ds places t.owner) (interface_of es places t.owner) t.name (of_same places t.owner)) (types_found places ts)

  module _ (features : FeatureSet) (sizes : Sizes) (foreign : OwnerPlaces) (p : Parts) where
    found_same : found_of ds foreign p ≡ found_of es foreign p
    found_same = types_found foreign.interfaces p.unknown

    pub planned_other : (owners : OwnerPlaces) (types : Places) → IsPlanned features ds sizes foreign p owners types → IsPlanned features es sizes foreign p owners types
    planned_other owners types a = record { owners_are = a.owners_are; types_are = subst (λ (l : Places). AreTypesPlaced features owners l sizes.types p.types types) found_same a.types_are; kept = a.kept }

    pub plan_breaks_other : (at : Span) → PlanBreaks features ds sizes foreign p at → PlanBreaks features es sizes foreign p at
    plan_breaks_other at (type_breaks b) = type_breaks (subst (λ (l : Places). TypesBreak features (owners_of features sizes foreign p) (record { places = l; next = sizes.types }) p.types at) found_same b)
    plan_breaks_other at (part_breaks types placed b) = part_breaks types (subst (λ (l : Places). AreTypesPlaced features (owners_of features sizes foreign p) l sizes.types p.types types) found_same placed) b
