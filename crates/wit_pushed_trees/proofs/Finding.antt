-- What a package asks for is found by name.
use Rattle.std.proofs.Common.{◌≡◌, ℕ, Bool, true, false, List, [], ◌∷◌, Option, Some, None, bytes_eq, inl, inr, refl, sym, subst, ap, ◌∙◌}
use Rattle.std.proofs.lemmas.Option.{same_Some}
use Rattle.std.proofs.lemmas.Slice.Eq.{bytes_eq-Decides}
use Rattle.std.specs.Map.{lookup}
use Rattle.std.specs.Prelude.{String, Vec, cond, if◌then◌else◌, option_map, string_bytes, slice_get}
use Rattle.std.specs.declared.alloc.Global.{Global}
use Rattle.wit_order.specs.Order as order
use Rattle.wit_types.specs.declared.«package».AstItem.{AstItem}
use Rattle.wit_types.specs.declared.«package».AstItem.TheVariants as ids
use Rattle.wit_types.specs.declared.«package».Package.{Package}
use Rattle.wit_types.specs.declared.«package».PackageName.{PackageName}
use Rattle.wit_types.specs.declared.«package».UnresolvedPackage.{UnresolvedPackage}
use Rattle.wit_features.specs.Features.{FeatureSet}
use Rattle.wit_graph.proofs.Passed.wit_placed-Finding.{flat_has, has_or}
use Rattle.wit_graph.proofs.Passed.wit_placed-Members.{has_at}
use Rattle.wit_finding.specs.Packages.{AreNamed}
use Rattle.wit_finding.specs.Asks.{Ask, ItemEntry, asks_of, asks_at, asks_in, is_kept, interface_in, world_in, item_in, finds, pair_of, found_by, items_of}
use Rattle.wit_finding.specs.Places.{interface_pair, world_pair}
use Rattle.wit_well_formed.specs.Passed.wit_foreign-Deps.{PackageEntry, package_entries}
use Rattle.wit_arena.specs.Tree.{Name, in_interface, in_world, Owner}
use Rattle.wit_arena.specs.Unfold.{Owners}
use Rattle.wit_arena.specs.Meaning.{Has}
use Rattle.wit_arena.proofs.Lists.{has_here, has_later, map_has}
use Rattle.wit_arena.proofs.Unfolding.{option_map_some}
use Rattle.indexmap.specs.IndexMap.{IndexMap}
use Rattle.wit_types.specs.declared.stability.Stability.{Stability}
use Rattle.semver.specs.declared.Version.{Version}
use Rattle.semver.specs.Identifiers.{parts_of, parts_text, version_text}
use Rattle.wit_graph.specs.Passed.wit_graph_worlds-Names.{IsSameName}
use Rattle.wit_pushed_trees.specs.Asked.{text_of, owner_asked, IsWhose, AsksByName}
use Rattle.wit_pushed_trees.specs.Found.{TellsNamesApart, NamesStand, IsInterfaceOf, IsWorldOf, AskedItemsAreFoundByName}

-- ---- tables

-- what is looked up is there, under a key that passes the test
pub looked_up : {K V : Type 0} (test : K → Bool) (es : List (K × V)) (v : V) → lookup test es ≡ Some v → (k : K) × Has es (k, v) × (test k ≡ true)
looked_up {K} {V} test [] v h = absurd cc
looked_up {K} {V} test (e ∷ es) v h = by_cases (test e.0) refl h (λ l. looked_up test es v l)
  where
    by_cases : (b : Bool) → test e.0 ≡ b → cond b (Some e.1) (lookup test es) ≡ Some v → (lookup test es ≡ Some v → (k : K) × Has es (k, v) × (test k ≡ true)) → (k : K) × Has (e ∷ es) (k, v) × (test k ≡ true)
    by_cases true t h later = (e.0, (0, ap (λ (w : V). Some (e.0, w)) (same_Some e.1 v h)), t)
    by_cases false t h later = (let r = later h in (r.0, has_later e es (r.0, v) r.1, r.2))

-- ---- names

version_texts : (v w : Option Version) → option_map parts_of w ≡ option_map parts_of v → option_map version_text v ≡ option_map version_text w
version_texts None None e = refl
version_texts None (Some w) e = absurd cc
version_texts (Some v) None e = absurd cc
version_texts (Some v) (Some w) e = ap (λ p. Some (parts_text p)) (sym (same_Some (parts_of w) (parts_of v) e))

pub same_text : (n m : PackageName) → IsSameName n m → text_of n ≡ text_of m
same_text n m is = rw (is.namespace_is, is.name_is, version_texts n.version m.version is.version_is) refl

-- ---- what is asked

abbrev Deps : Type 0 → Type 0
Deps S = List (PackageName × IndexMap (String Global) (AstItem × Vec Stability Global) S)

module _ (eq : PackageName → PackageName → Bool) (names : List (PackageName × ℕ)) (packages : List Package) (tells : TellsNamesApart eq) (stand : NamesStand packages names) where
  -- it is asked of a package of these, by the package's name and its own
  record IsAskOf (ds : List PackageEntry) (a : Ask) : Type 0 where
    pub dep : PackageEntry
    pub is_dep : Has ds dep
    pub entry : ItemEntry
    pub is_entry : Has dep.1 entry
    pub there : Has packages a.«package»
    pub text : text_of dep.0 ≡ text_of a.«package».name
    pub name : a.name ≡ string_bytes entry.0
    pub item : a.item ≡ entry.1.0

  ask_later : (d : PackageEntry) (ds : List PackageEntry) (a : Ask) → IsAskOf ds a → IsAskOf (d ∷ ds) a
  ask_later d ds a is = record { dep = is.dep; is_dep = has_later d ds is.dep is.is_dep; entry = is.entry; is_entry = is.is_entry; there = is.there; text = is.text; name = is.name; item = is.item }

  -- the package of a name
  ask_here : (n : PackageName) (es : List ItemEntry) (ds : List PackageEntry) (i : ℕ) (o : Option Package) (a : Ask) → lookup (eq n) names ≡ Some i → slice_get packages i ≡ o → order.Has (asks_at o es) a → IsAskOf ((n, es) ∷ ds) a
  ask_here n es ds i None a found at has = absurd has
  ask_here n es ds i (Some q) a found at has =
      let e = map_has (λ (e : ItemEntry). record { «package» = q; name = string_bytes e.0; item = e.1.0; gates = e.1.1.items }) es a (has_at (asks_of q es) a has) in
      let key = looked_up (eq n) names i found in
      let there = stand key.0 i key.1 in
      let same : there.0 ≡ q = same_Some there.0 q (sym there.1 ∙ at) in
      let text : text_of n ≡ text_of q.name = same_text n key.0 (tells n key.0 key.2) ∙ same_text key.0 there.0.name there.2 ∙ ap (λ (r : Package). text_of r.name) same in
      subst (IsAskOf ((n, es) ∷ ds)) (sym e.2) (record {
        dep = (n, es);
        is_dep = has_here (n, es) ds;
        entry = e.0;
        is_entry = e.1;
        there = (i, at);
        text = text;
        name = refl;
        item = refl;
      })

  asked : {S : Type 0} (deps : Deps S) (ids : List ℕ) → AreNamed eq names deps ids → (a : Ask) → order.Has (asks_in packages ids (items_of deps)) a → IsAskOf (package_entries deps) a
  asked [] [] named a has = absurd has
  asked [] (i ∷ is) named a has = absurd has
  asked (d ∷ ds) [] named a has = absurd named
  asked (d ∷ ds) (i ∷ is) named a has =
      elim (has_or (asks_at (slice_get packages i) d.1.entries) (asks_in packages is (items_of ds)) a has) as (λ _. IsAskOf (package_entries (d ∷ ds)) a) [
        | inl here ↦ ask_here d.0 d.1.entries (package_entries ds) i (slice_get packages i) a named.0 refl here
        | inr later ↦ ask_later (d.0, d.1.entries) (package_entries ds) a (asked ds is named.1 a later)
      ]

  -- ---- what is found

  module _ (owners : Owners) where
    abbrev FoundAs : AstItem → AstItem → Type 0
    FoundAs (ids.Interface i) (ids.Interface j) = (w : Owner) × (slice_get owners.interfaces i ≡ Some w) × IsInterfaceOf packages w j
    FoundAs (ids.World i) (ids.World j) = (w : Owner) × (slice_get owners.worlds i ≡ Some w) × IsWorldOf packages w j
    FoundAs (ids.Interface i) (ids.World j) = Unit {0}
    FoundAs (ids.World i) (ids.Interface j) = Unit {0}

    item_found : (n : PackageName) (q : Package) (name : Name) (item found : AstItem) → Has packages q → text_of n ≡ text_of q.name → IsWhose owners item (owner_asked n item name) → item_in q name item ≡ Some found → FoundAs item found
    item_found n q name (ids.Interface i) found there text whose h =
        let o = option_map_some ids.Interface (interface_in q name) found h in
        let r = looked_up (λ (x : String Global). bytes_eq name (string_bytes x)) q.interfaces.entries o.0 o.1 in
        subst (FoundAs (ids.Interface i)) o.2
        (owner_asked n (ids.Interface i) name, whose, record { «package» = q; there = there; text = text; name = r.0; listed = r.1; place_is = ap in_interface ((bytes_eq-Decides name (string_bytes r.0)).0 r.2) })
    item_found n q name (ids.World i) found there text whose h =
        let o = option_map_some ids.World (world_in q name) found h in
        let r = looked_up (λ (x : String Global). bytes_eq name (string_bytes x)) q.worlds.entries o.0 o.1 in
        subst (FoundAs (ids.World i)) o.2
        (owner_asked n (ids.World i) name, whose, record { «package» = q; there = there; text = text; name = r.0; listed = r.1; place_is = ap in_world ((bytes_eq-Decides name (string_bytes r.0)).0 r.2) })

    kept_found : (b : Bool) (o : Option AstItem) (found : AstItem) → (if b then o else None) ≡ Some found → o ≡ Some found
    kept_found true o found h = h
    kept_found false o found h = absurd cc

    pair_found : (i : AstItem) (o : Option AstItem) (pair : AstItem × AstItem) → order.Has (pair_of i o) pair → (pair.0 ≡ i) × (o ≡ Some pair.1)
    pair_found i None pair h = absurd h
    pair_found i (Some j) pair h = elim h as (λ _. (pair.0 ≡ i) × (Some j ≡ Some pair.1)) [ inl here ↦ (ap (λ (q : AstItem × AstItem). q.0) here, ap (λ (q : AstItem × AstItem). Some q.1) (sym here)) | inr later ↦ absurd later ]

    module _ (p : UnresolvedPackage) (asks : AsksByName owners p) (features : FeatureSet) (places : List ℕ) (named : AreNamed eq names p.foreign_deps.entries places) where
      abbrev all : List Ask
      all = asks_in packages places (items_of p.foreign_deps.entries)

      found : (pair : AstItem × AstItem) → order.Has (found_by features all) pair → FoundAs pair.0 pair.1
      found pair has =
          let r = flat_has (λ (a : Ask). pair_of a.item (finds features a)) all pair has in
          let a : Ask = r.0 in
          let is : IsAskOf (package_entries p.foreign_deps.entries) a = asked p.foreign_deps.entries places named a r.1 in
          let here = pair_found a.item (finds features a) pair r.2 in
          let in_it : item_in a.«package» a.name a.item ≡ Some pair.1 = kept_found (is_kept features a) (item_in a.«package» a.name a.item) pair.1 here.1 in
          let whose : IsWhose owners a.item (owner_asked is.dep.0 a.item a.name) = rw (is.item, is.name) (asks.items is.dep is.is_dep is.entry is.is_entry) in
          subst (λ (i : AstItem). FoundAs i pair.1) (sym here.0) (item_found is.dep.0 a.«package» a.name a.item pair.1 is.there is.text whose in_it)

      interface_of : (pair : AstItem × AstItem) (i j : ℕ) → FoundAs pair.0 pair.1 → order.Has (interface_pair pair) (i, j) → FoundAs (ids.Interface i) (ids.Interface j)
      interface_of (ids.Interface a, ids.Interface b) i j is h =
          elim h as (λ _. FoundAs (ids.Interface i) (ids.Interface j)) [ inl here ↦ subst (λ (q : ℕ × ℕ). FoundAs (ids.Interface q.0) (ids.Interface q.1)) (sym here) is | inr later ↦ absurd later ]
      interface_of (ids.Interface a, ids.World b) i j is h = absurd h
      interface_of (ids.World a, ids.Interface b) i j is h = absurd h
      interface_of (ids.World a, ids.World b) i j is h = absurd h

      world_of : (pair : AstItem × AstItem) (i j : ℕ) → FoundAs pair.0 pair.1 → order.Has (world_pair pair) (i, j) → FoundAs (ids.World i) (ids.World j)
      world_of (ids.World a, ids.World b) i j is h =
          elim h as (λ _. FoundAs (ids.World i) (ids.World j)) [ inl here ↦ subst (λ (q : ℕ × ℕ). FoundAs (ids.World q.0) (ids.World q.1)) (sym here) is | inr later ↦ absurd later ]
      world_of (ids.World a, ids.Interface b) i j is h = absurd h
      world_of (ids.Interface a, ids.World b) i j is h = absurd h
      world_of (ids.Interface a, ids.Interface b) i j is h = absurd h

pub asked_found : AskedItemsAreFoundByName
asked_found eq features names packages owners p interfaces worlds tells stand asks are = record {
  interfaces_are = λ i j at.
      let r = flat_has interface_pair (found_by features (asks_in packages are.ids (items_of p.foreign_deps.entries))) (i, j) (are.interfaces_are.sound i j at) in
      interface_of eq names packages tells stand owners p asks features are.ids are.named r.0 i j (found eq names packages tells stand owners p asks features are.ids are.named r.0 r.1) r.2;
  worlds_are = λ i j at.
      let r = flat_has world_pair (found_by features (asks_in packages are.ids (items_of p.foreign_deps.entries))) (i, j) (are.worlds_are.sound i j at) in
      world_of eq names packages tells stand owners p asks features are.ids are.named r.0 i j (found eq names packages tells stand owners p asks features are.ids are.named r.0 r.1) r.2;
}
