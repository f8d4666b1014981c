-- What is asked for stands in one place, where each is asked for under one name.
use Rattle.std.proofs.Common.{◌≡◌, ℕ, ◌<◌, suc, Bool, true, false, List, [], ◌∷◌, ◌++◌, ◌⊎◌, inl, inr, Option, Some, None, String, Vec, refl, sym, ap, ap₂, subst, ◌∙◌, flat_map, length, arith}
use Rattle.std.proofs.lemmas.Option.{same_Some}
use Rattle.std.specs.Map.{lookup}
use Rattle.std.specs.Prelude.{slice_get, string_bytes, is_some, if◌then◌else◌}
use Rattle.std.specs.declared.alloc.Global.{Global}
use Rattle.indexmap.specs.IndexMap.{IndexMap}
use Rattle.wit_order.specs.Order.{Has}
use Rattle.wit_types.specs.declared.«package».AstItem.{AstItem}
use Rattle.wit_types.specs.declared.«package».AstItem.TheVariants as asked
use Rattle.wit_types.specs.declared.«package».Package.{Package}
use Rattle.wit_types.specs.declared.«package».PackageName.{PackageName}
use Rattle.wit_types.specs.declared.«package».UnresolvedPackage.{UnresolvedPackage}
use Rattle.wit_types.specs.declared.stability.Stability.{Stability}
use Rattle.wit_words.specs.declared.source_map.Span.{Span}
use Rattle.wit_features.specs.Features.{FeatureSet}
use Rattle.wit_moves.specs.Moved.{Places, flat, place_of, is_placed}
use Rattle.wit_finding.specs.Packages.{AreNamed}
use Rattle.wit_finding.specs.Places.{interface_pair, interface_pairs, world_pair, world_pairs, ArePlaced}
use Rattle.wit_finding.specs.Asks.{Ask, ItemEntry, ask, asks_of, asks_at, asks_in, items_of, is_kept, item_in, finds, pair_of, found_by, AskBreaks}
use Rattle.wit_finding.specs.Foreign.{asks_of_package, counts_of, AreForeignPlaces, ItemsBreak}
use Rattle.wit_push_causes.specs.Asked.{PackageEntry, package_entries, AreForOne, AsksForOne}
use Rattle.wit_push_causes.proofs.Names.{named_one}

-- ---- places by pairs that are one for each number

abbrev AreOneEach : List (ℕ × ℕ) → Type 0
AreOneEach pairs = (i j k : ℕ) → Has pairs (i, j) → Has pairs (i, k) → j ≡ k

some_of : (o : Option ℕ) → is_some o ≡ true → (j : ℕ) × (o ≡ Some j)
some_of None e = absurd cc
some_of (Some j) e = (j, refl)

flat_same : (a b : Option (Option ℕ)) (x y : Option ℕ) → a ≡ Some x → b ≡ Some y → flat a ≡ flat b → a ≡ b
flat_same a b x y e f same = e ∙ ap (λ (o : Option ℕ). Some o) (ap flat (sym e) ∙ same ∙ ap flat f) ∙ sym f

ext : (xs ys : Places) → length xs ≡ length ys → ((i : ℕ) → i < length xs → place_of xs i ≡ place_of ys i) → xs ≡ ys
ext [] [] size each = refl
ext [] (y ∷ ys) size each = absurd (omega (arith, size))
ext (x ∷ xs) [] size each = absurd (omega (arith, size))
ext (x ∷ xs) (y ∷ ys) size each = ap₂ (λ (z : Option ℕ) (zs : Places). z ∷ zs) (each 0 (omega arith)) (ext xs ys (omega (arith, size)) (λ i l. each (suc i) (omega (arith, l))))

module _ (pairs : List (ℕ × ℕ)) (one : AreOneEach pairs) (so_many : ℕ) (xs ys : Places) (a : ArePlaced pairs so_many xs) (b : ArePlaced pairs so_many ys) where
  place_one : (i : ℕ) → i < so_many → (o p : Option ℕ) → place_of xs i ≡ o → place_of ys i ≡ p → o ≡ p
  place_one i l None None e f = refl
  place_one i l (Some j) None e f = let there : is_placed ys i ≡ true = b.complete i j (a.sound i j e) l in let none : is_placed ys i ≡ false = ap is_some f in absurd cc
  place_one i l None (Some k) e f = let there : is_placed xs i ≡ true = a.complete i k (b.sound i k f) l in let none : is_placed xs i ≡ false = ap is_some e in absurd cc
  place_one i l (Some j) (Some k) e f = ap (λ (n : ℕ). Some n) (one i j k (a.sound i j e) (b.sound i k f))

  pub placed_one : xs ≡ ys
  placed_one =
      let m : length xs ≡ so_many = a.all in
      let n : length ys ≡ so_many = b.all in
      ext xs ys (m ∙ sym n) (λ i l. place_one i (omega (arith, l, m)) (place_of xs i) (place_of ys i) refl refl)

-- ---- what is asked for

module _ {X Y : Type 0} (f : X → List Y) where
  join_parts : (xs ys : List Y) (y : Y) → Has (xs ++ ys) y → Has xs y ⊎ Has ys y
  join_parts [] ys y h = inr h
  join_parts (x ∷ xs) ys y (inl here) = inl (inl here)
  join_parts (x ∷ xs) ys y (inr later) = elim (join_parts xs ys y later) as (λ _. Has (x ∷ xs) y ⊎ Has ys y) [ inl a ↦ inl (inr a) | inr b ↦ inr b ]

  has_flat : (xs : List X) (y : Y) → Has (flat_map f xs) y → (x : X) × Has xs x × Has (f x) y
  has_flat [] y h = absurd h
  has_flat (x ∷ xs) y h = elim (join_parts (f x) (flat_map f xs) y h) as (λ _. (z : X) × Has (x ∷ xs) z × Has (f z) y) [
    | inl here ↦ (x, inl refl, here)
    | inr later ↦ (let r = has_flat xs y later in (r.0, inr r.1, r.2))
  ]

-- where it is asked for
record IsAskedIn (eq : PackageName → PackageName → Bool) (names : List (PackageName × ℕ)) (packages : List Package) (deps : List PackageEntry) (a : Ask) : Type 0 where
  dep : PackageEntry
  has : Has deps dep
  entry : ItemEntry
  there : Has dep.1 entry
  id : ℕ
  found : lookup (eq dep.0) names ≡ Some id
  of : slice_get packages id ≡ Some a.«package»
  name_is : a.name ≡ string_bytes entry.0
  item_is : a.item ≡ entry.1.0

asked_entry : (q : Package) (es : List ItemEntry) (a : Ask) → Has (asks_of q es) a → (e : ItemEntry) × Has es e × (a ≡ ask q (string_bytes e.0) e.1.0 e.1.1.items)
asked_entry q [] a h = absurd h
asked_entry q (e ∷ es) a (inl here) = (e, inl refl, here)
asked_entry q (e ∷ es) a (inr later) = (let r = asked_entry q es a later in (r.0, inr r.1, r.2))

asked_at : (o : Option Package) (es : List ItemEntry) (a : Ask) → Has (asks_at o es) a → (q : Package) × (o ≡ Some q) × Has (asks_of q es) a
asked_at None es a h = absurd h
asked_at (Some q) es a h = (q, refl, h)

module _ {S : Type 0} (eq : PackageName → PackageName → Bool) (names : List (PackageName × ℕ)) (packages : List Package) where
  asked_in : (deps : List (PackageName × IndexMap (String Global) (AstItem × Vec Stability Global) S)) (ids : List ℕ) (a : Ask) → AreNamed eq names deps ids → Has (asks_in packages ids (items_of deps)) a
      → IsAskedIn eq names packages (package_entries deps) a
  asked_in [] [] a n h = absurd h
  asked_in [] (i ∷ ids) a n h = absurd n
  asked_in (d ∷ deps) [] a n h = absurd n
  asked_in (d ∷ deps) (i ∷ ids) a n h =
      elim (join_parts (asks_at (slice_get packages i)) (asks_at (slice_get packages i) d.1.entries) (asks_in packages ids (items_of deps)) a h) as (λ _. IsAskedIn eq names packages (package_entries (d ∷ deps)) a) [
        | inl here ↦
            let o = asked_at (slice_get packages i) d.1.entries a here in
            let e = asked_entry o.0 d.1.entries a o.2 in
            record {
              dep = (d.0, d.1.entries);
              has = inl refl;
              entry = e.0;
              there = e.1;
              id = i;
              found = n.0;
              of = o.1 ∙ ap (λ (b : Ask). Some b.«package») (sym e.2);
              name_is = ap (λ (b : Ask). b.name) e.2;
              item_is = ap (λ (b : Ask). b.item) e.2;
            }
        | inr later ↦
            let r = asked_in deps ids a n.1 later in
            record { dep = r.dep; has = inr r.has; entry = r.entry; there = r.there; id = r.id; found = r.found; of = r.of; name_is = r.name_is; item_is = r.item_is }
      ]

module _ (eq : PackageName → PackageName → Bool) (names : List (PackageName × ℕ)) (packages : List Package) (deps : List PackageEntry) (one : AreForOne deps) where
  -- what is asked for of one item is one
  ask_one : (a b : Ask) → IsAskedIn eq names packages deps a → IsAskedIn eq names packages deps b → b.item ≡ a.item → item_in b.«package» b.name b.item ≡ item_in a.«package» a.name a.item
  ask_one a b x y same =
      let is = one x.dep y.dep x.entry y.entry x.has x.there y.has y.there (sym y.item_is ∙ same ∙ x.item_is) in
      let id : y.id ≡ x.id = same_Some y.id x.id (sym y.found ∙ ap (λ (n : PackageName). lookup (eq n) names) is.0 ∙ x.found) in
      let of : b.«package» ≡ a.«package» = same_Some b.«package» a.«package» (sym y.of ∙ ap (slice_get packages) id ∙ x.of) in
      let name : b.name ≡ a.name = y.name_is ∙ is.1 ∙ sym x.name_is in
      rw (of, name, same) refl

  -- what is found of it
  record IsFoundFor (i : AstItem) (j : AstItem) : Type 0 where
    of : Ask
    asked_for : IsAskedIn eq names packages deps of
    item_is : of.item ≡ i
    found : item_in of.«package» of.name of.item ≡ Some j

  found_one : (i j k : AstItem) → IsFoundFor i j → IsFoundFor i k → j ≡ k
  found_one i j k x y = same_Some j k (sym x.found ∙ sym (ask_one x.of y.of x.asked_for y.asked_for (y.item_is ∙ sym x.item_is)) ∙ y.found)

finds_kept : (b : Bool) (o : Option AstItem) (j : AstItem) → (if b then o else None) ≡ Some j → o ≡ Some j
finds_kept true o j e = e
finds_kept false o j e = absurd cc

pair_found : (features : FeatureSet) (a : Ask) (o : Option AstItem) (i j : AstItem) → finds features a ≡ o → Has (pair_of a.item o) (i, j) → (a.item ≡ i) × (finds features a ≡ Some j)
pair_found features a None i j e h = absurd h
pair_found features a (Some k) i j e (inl here) = (ap (λ (p : AstItem × AstItem). p.0) (sym here), e ∙ ap (λ (p : AstItem × AstItem). Some p.1) (sym here))
pair_found features a (Some k) i j e (inr none) = absurd none

interface_found : (x y : AstItem) (i j : ℕ) → Has (interface_pair (x, y)) (i, j) → (x ≡ asked.Interface i) × (y ≡ asked.Interface j)
interface_found (asked.Interface a) (asked.Interface b) i j (inl here) = (ap (λ (p : ℕ × ℕ). asked.Interface p.0) (sym here), ap (λ (p : ℕ × ℕ). asked.Interface p.1) (sym here))
interface_found (asked.Interface a) (asked.Interface b) i j (inr none) = absurd none
interface_found (asked.Interface a) (asked.World b) i j h = absurd h
interface_found (asked.World a) (asked.Interface b) i j h = absurd h
interface_found (asked.World a) (asked.World b) i j h = absurd h

world_found : (x y : AstItem) (i j : ℕ) → Has (world_pair (x, y)) (i, j) → (x ≡ asked.World i) × (y ≡ asked.World j)
world_found (asked.World a) (asked.World b) i j (inl here) = (ap (λ (p : ℕ × ℕ). asked.World p.0) (sym here), ap (λ (p : ℕ × ℕ). asked.World p.1) (sym here))
world_found (asked.World a) (asked.World b) i j (inr none) = absurd none
world_found (asked.World a) (asked.Interface b) i j h = absurd h
world_found (asked.Interface a) (asked.World b) i j h = absurd h
world_found (asked.Interface a) (asked.Interface b) i j h = absurd h

interface_id : (i j : ℕ) → asked.Interface i ≡ asked.Interface j → i ≡ j
interface_id i j e = cc

world_id : (i j : ℕ) → asked.World i ≡ asked.World j → i ≡ j
world_id i j e = cc

module _ (eq : PackageName → PackageName → Bool) (features : FeatureSet) (names : List (PackageName × ℕ)) (packages : List Package) (p : UnresolvedPackage) (for_one : AsksForOne p) (ids : List ℕ) (named : AreNamed eq names p.foreign_deps.entries ids) where
  abbrev asks : List Ask
  asks = asks_of_package packages ids p

  abbrev Found : AstItem → AstItem → Type 0
  Found = IsFoundFor eq names packages (package_entries p.foreign_deps.entries) for_one

  found_for : (i j : AstItem) → Has (found_by features asks) (i, j) → Found i j
  found_for i j h =
      let r = has_flat (λ (a : Ask). pair_of a.item (finds features a)) asks (i, j) h in
      let f = pair_found features r.0 (finds features r.0) i j refl r.2 in
      record { of = r.0; asked_for = asked_in eq names packages p.foreign_deps.entries ids r.0 named r.1; item_is = f.0; found = finds_kept (is_kept features r.0) (item_in r.0.«package» r.0.name r.0.item) j f.1 }

  interface_for : (i j : ℕ) → Has (interface_pairs (found_by features asks)) (i, j) → Found (asked.Interface i) (asked.Interface j)
  interface_for i j h =
      let r = has_flat interface_pair (found_by features asks) (i, j) h in
      let is = interface_found r.0.0 r.0.1 i j r.2 in
      subst (Found (asked.Interface i)) is.1 (subst (λ (x : AstItem). Found x r.0.1) is.0 (found_for r.0.0 r.0.1 r.1))

  world_for : (i j : ℕ) → Has (world_pairs (found_by features asks)) (i, j) → Found (asked.World i) (asked.World j)
  world_for i j h =
      let r = has_flat world_pair (found_by features asks) (i, j) h in
      let is = world_found r.0.0 r.0.1 i j r.2 in
      subst (Found (asked.World i)) is.1 (subst (λ (x : AstItem). Found x r.0.1) is.0 (found_for r.0.0 r.0.1 r.1))

  interfaces_each : AreOneEach (interface_pairs (found_by features asks))
  interfaces_each i j k a b = interface_id j k (found_one eq names packages (package_entries p.foreign_deps.entries) for_one (asked.Interface i) (asked.Interface j) (asked.Interface k) (interface_for i j a) (interface_for i k b))

  worlds_each : AreOneEach (world_pairs (found_by features asks))
  worlds_each i j k a b = world_id j k (found_one eq names packages (package_entries p.foreign_deps.entries) for_one (asked.World i) (asked.World j) (asked.World k) (world_for i j a) (world_for i k b))

  interfaces_one : (n : ℕ) (xs ys : Places) → ArePlaced (interface_pairs (found_by features asks)) n xs → ArePlaced (interface_pairs (found_by features asks)) n ys → xs ≡ ys
  interfaces_one n xs ys a b = placed_one (interface_pairs (found_by features asks)) interfaces_each n xs ys a b

  worlds_one : (n : ℕ) (xs ys : Places) → ArePlaced (world_pairs (found_by features asks)) n xs → ArePlaced (world_pairs (found_by features asks)) n ys → xs ≡ ys
  worlds_one n xs ys a b = placed_one (world_pairs (found_by features asks)) worlds_each n xs ys a b

module _ (eq : PackageName → PackageName → Bool) (features : FeatureSet) (names : List (PackageName × ℕ)) (packages : List Package) (p : UnresolvedPackage) where
  -- where it stands is one place
  pub foreign_one : AsksForOne p → (xs ws ys vs : Places) → AreForeignPlaces eq features names packages p xs ws → AreForeignPlaces eq features names packages p ys vs → (xs ≡ ys) × (ws ≡ vs)
  foreign_one for_one xs ws ys vs a b =
      let same : b.ids ≡ a.ids = named_one eq names p.foreign_deps.entries b.ids a.ids b.named a.named in
      let deps = counts_of (items_of p.foreign_deps.entries) in (
        interfaces_one eq features names packages p for_one a.ids a.named deps.interfaces xs ys a.interfaces_are
            (subst (λ (l : List ℕ). ArePlaced (interface_pairs (found_by features (asks_of_package packages l p))) deps.interfaces ys) same b.interfaces_are),
        worlds_one eq features names packages p for_one a.ids a.named deps.worlds ws vs a.worlds_are
            (subst (λ (l : List ℕ). ArePlaced (world_pairs (found_by features (asks_of_package packages l p))) deps.worlds vs) same b.worlds_are),
      )

  -- and nothing is missing of what is asked for
  pub no_items_break : (xs ws : Places) (at : Span) → AreForeignPlaces eq features names packages p xs ws → ItemsBreak eq features names packages p at → ⊥
  no_items_break xs ws at a b =
      let same : b.ids ≡ a.ids = named_one eq names p.foreign_deps.entries b.ids a.ids b.named a.named in
      a.kept at (subst (λ (l : List ℕ). AskBreaks features p.interfaces p.worlds (asks_of_package packages l p) at) same b.breaks)
