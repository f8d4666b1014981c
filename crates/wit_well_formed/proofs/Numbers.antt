-- Each interface and each world that a package asks for is counted among what it asks of others.
use Rattle.std.proofs.Common.{◌≡◌, ℕ, zero, suc, ◌+◌, ◌<◌, ◌≤◌, List, [], ◌∷◌, ◌++◌, inl, inr, length, length-append, map, Vec, String, Some, refl, sym, subst, ap, ◌∙◌, arith}
use Rattle.std.proofs.lemmas.Option.{same_Some, slice_get-map, slice_get_within}
use Rattle.std.specs.Prelude.{slice_get, flat_map, option_map}
use Rattle.std.specs.declared.alloc.Global.{Global}
use Rattle.indexmap.specs.IndexMap.{IndexMap}
use Rattle.wit_types.specs.declared.stability.Stability.{Stability}
use Rattle.wit_types.specs.declared.«package».AstItem.{AstItem}
use Rattle.wit_types.specs.declared.«package».AstItem.TheVariants as ids
use Rattle.wit_types.specs.declared.«package».PackageName.{PackageName}
use Rattle.wit_words.specs.declared.source_map.Span.{Span}
use Rattle.wit_package.specs.Passed.wit_arena-Tree.{Owner}
use Rattle.wit_package.specs.Passed.wit_arena-Meaning.{Has}
use Rattle.wit_package.proofs.Passed.wit_arena-Lists.{get_split, has_here, has_left, has_right, has_cases, has_none}
use Rattle.wit_package.specs.Passed.wit_foreign-Needs.{NeedTree}
use Rattle.wit_package.specs.Passed.wit_foreign-Items.{Items, interfaces_in, worlds_in, need_owner, AreItemsOf}
use Rattle.wit_package.proofs.Passed.wit_foreign-Numbers.{interface_below, interface_alone, world_alone}
use Rattle.wit_package.specs.Passed.wit_foreign-Groups.{package_key, item_key, IsPart, no_part, of_key, of_another, AreParts}
use Rattle.wit_package.specs.Passed.wit_foreign-Deps.{ItemEntry, PackageEntry, package_entries, AreEntries, IsItemDep, IsPackageDep, AreDeps}
use Rattle.wit_package.proofs.Passed.wit_resolved_scopes-Readying.{either}
use Rattle.wit_package.proofs.Passed.wit_readiness-Flat.{has_one, flat_has}
use Rattle.wit_finding.specs.Asks.{items_of}
use Rattle.wit_finding.specs.Foreign.{with_item, with_items, with_deps, counts_of}
use Rattle.wit_finding.specs.declared.counts.Counts.{Counts}
use Rattle.wit_reach.proofs.Holding.{got}
use Rattle.wit_well_formed.proofs.Lists.{got_mapped}
use Rattle.wit_well_formed.proofs.Counted.{interface_item, world_item, world_below}
use Rattle.wit_well_formed.proofs.Sorts.{AskOfOne}

-- ---- sorts

-- what is counted by itself: interfaces, or worlds
pub record Sort : Type 0 where
  pub id : ℕ → AstItem
  -- the number of an item of the sort
  pub numbers : AstItem → List ℕ
  pub total : Counts → ℕ
  pub own : (k : ℕ) → numbers (id k) ≡ k ∷ []
  pub only : (i : AstItem) (k : ℕ) → Has (numbers i) k → i ≡ id k
  pub one : (i : AstItem) → length (numbers i) ≤ 1
  pub step : (c : Counts) (i : AstItem) → total (with_item c i) ≡ total c + length (numbers i)

-- those that are asked for have numbers below a bound, each its own
pub record AreNumbered (s : Sort) (items : Items) (bound : ℕ) : Type 0 where
  pub there : (k : ℕ) → k < bound → (w : Owner) × Has items (w, s.id k)
  pub below : (w : Owner) (k : ℕ) → Has items (w, s.id k) → k < bound
  pub alone : (v w : Owner) (k : ℕ) → Has items (v, s.id k) → Has items (w, s.id k) → v ≡ w

abbrev interface_numbers : AstItem → List ℕ
interface_numbers (ids.Interface k) = k ∷ []
interface_numbers (ids.World k) = []

abbrev world_numbers : AstItem → List ℕ
world_numbers (ids.Interface k) = []
world_numbers (ids.World k) = k ∷ []

pub interface_only : (i : AstItem) (k : ℕ) → Has (interface_numbers i) k → i ≡ ids.Interface k
interface_only (ids.Interface j) k has = ap ids.Interface (sym (has_one j k has))
interface_only (ids.World j) k has = absurd (has_none k has)

pub interface_one : (i : AstItem) → length (interface_numbers i) ≤ 1
interface_one (ids.Interface k) = omega arith
interface_one (ids.World k) = omega arith

pub interface_step : (c : Counts) (i : AstItem) → (with_item c i).interfaces ≡ c.interfaces + length (interface_numbers i)
interface_step c (ids.Interface k) = refl
interface_step c (ids.World k) = omega arith

pub world_only : (i : AstItem) (k : ℕ) → Has (world_numbers i) k → i ≡ ids.World k
world_only (ids.World j) k has = ap ids.World (sym (has_one j k has))
world_only (ids.Interface j) k has = absurd (has_none k has)

pub world_one : (i : AstItem) → length (world_numbers i) ≤ 1
world_one (ids.Interface k) = omega arith
world_one (ids.World k) = omega arith

pub world_step : (c : Counts) (i : AstItem) → (with_item c i).worlds ≡ c.worlds + length (world_numbers i)
world_step c (ids.World k) = refl
world_step c (ids.Interface k) = omega arith

abbrev pub interfaces : Sort
interfaces = record { id = ids.Interface; numbers = interface_numbers; total = λ c. c.interfaces; own = λ k. refl; only = interface_only; one = interface_one; step = interface_step }

abbrev pub worlds : Sort
worlds = record { id = ids.World; numbers = world_numbers; total = λ c. c.worlds; own = λ k. refl; only = world_only; one = world_one; step = world_step }

-- ---- counts

abbrev pub numbers_in : Sort → List ItemEntry → List ℕ
numbers_in s es = flat_map (λ (e : ItemEntry). s.numbers e.1.0) es

-- a list that has so many different numbers is as long
many : (n : ℕ) (ns : List ℕ) → ((j : ℕ) → j < n → Has ns j) → n ≤ length ns
many zero ns has = omega arith
many (suc n) ns has =
    let at = has n (omega arith) in
    let s = get_split ns at.0 n at.1 in
    let left : (j : ℕ) → j < n → Has (s.0 ++ s.1) j = λ j less. other s.0 s.1 j less (subst (λ (xs : List ℕ). Has xs j) s.2 (has j (omega (arith, less)))) in
    let fewer : n ≤ length (s.0 ++ s.1) = many n (s.0 ++ s.1) left in
    let whole : length ns ≡ length s.0 + length (n ∷ s.1) = ap length s.2 ∙ length-append s.0 (n ∷ s.1) in
    let rest : length (s.0 ++ s.1) ≡ length s.0 + length s.1 = length-append s.0 s.1 in
    omega (arith, fewer, whole, rest)
  where
    other : (xs ys : List ℕ) (j : ℕ) → j < n → Has (xs ++ n ∷ ys) j → Has (xs ++ ys) j
    other xs ys j less h = elim (either xs (n ∷ ys) j h) as (λ _. Has (xs ++ ys) j) [
      | inl in_front ↦ has_left xs ys j in_front
      | inr behind ↦ elim (has_cases n ys j behind) as (λ _. Has (xs ++ ys) j) [
        | inl same ↦ absurd (omega (arith, same, less))
        | inr later ↦ has_right xs ys j later
      ]
    ]

module _ (s : Sort) where
  items_counted : (c : Counts) (es : List ItemEntry) → s.total (with_items c (map (λ (e : ItemEntry). e.1) es)) ≡ s.total c + length (numbers_in s es)
  items_counted c [] = omega arith
  items_counted c (e ∷ es) =
      let rest : s.total (with_items (with_item c e.1.0) (map (λ (f : ItemEntry). f.1) es)) ≡ s.total (with_item c e.1.0) + length (numbers_in s es) = items_counted (with_item c e.1.0) es in
      let one : s.total (with_item c e.1.0) ≡ s.total c + length (s.numbers e.1.0) = s.step c e.1.0 in
      let both : length (numbers_in s (e ∷ es)) ≡ length (s.numbers e.1.0) + length (numbers_in s es) = length-append (s.numbers e.1.0) (numbers_in s es) in
      omega (arith, rest, one, both)

  pub deps_counted : (c : Counts) (ds : List (List ItemEntry)) → s.total (with_deps c ds) ≡ s.total c + length (flat_map (numbers_in s) ds)
  deps_counted c [] = omega arith
  deps_counted c (d ∷ ds) =
      let xs = map (λ (e : ItemEntry). e.1) d in
      let rest : s.total (with_deps (with_items c xs) ds) ≡ s.total (with_items c xs) + length (flat_map (numbers_in s) ds) = deps_counted (with_items c xs) ds in
      let one : s.total (with_items c xs) ≡ s.total c + length (numbers_in s d) = items_counted c d in
      let both : length (flat_map (numbers_in s) (d ∷ ds)) ≡ length (numbers_in s d) + length (flat_map (numbers_in s) ds) = length-append (numbers_in s d) (flat_map (numbers_in s) ds) in
      omega (arith, rest, one, both)

-- ---- parts

module _ {K : Type 0} (key : NeedTree → K) (x : K) where
  part_has : (ns row : List NeedTree) → IsPart key x ns row → (n : NeedTree) → Has ns n → key n ≡ x → Has row n
  part_has ns row no_part n has of = absurd (has_none n has)
  part_has ns row (of_key ms r m p same) n has of = elim (either ms (m ∷ []) n has) as (λ _. Has (r ++ m ∷ []) n) [
    | inl was ↦ has_left r (m ∷ []) n (part_has ms r p n was of)
    | inr last ↦ has_right r (m ∷ []) n last
  ]
  part_has ns row (of_another ms r m p differs) n has of = elim (either ms (m ∷ []) n has) as (λ _. Has r n) [
    | inl was ↦ part_has ms r p n was of
    | inr last ↦ elim (has_cases m [] n last) as (λ _. Has r n) [ inl same ↦ absurd (differs (ap key (sym same) ∙ of)) | inr none ↦ absurd (has_none n none) ]
  ]

  pub part_of : (ns row : List NeedTree) → IsPart key x ns row → (n : NeedTree) → Has row n → Has ns n × (key n ≡ x)
  part_of ns row no_part n has = absurd (has_none n has)
  part_of ns row (of_key ms r m p same) n has = elim (either r (m ∷ []) n has) as (λ _. Has (ms ++ m ∷ []) n × (key n ≡ x)) [
    | inl was ↦ (let h = part_of ms r p n was in (has_left ms (m ∷ []) n h.0, h.1))
    | inr last ↦ elim (has_cases m [] n last) as (λ _. Has (ms ++ m ∷ []) n × (key n ≡ x)) [ inl is ↦ (has_right ms (m ∷ []) n last, ap key is ∙ same) | inr none ↦ absurd (has_none n none) ]
  ]
  part_of ns row (of_another ms r m p differs) n has = (let h = part_of ms r p n has in (has_left ms (m ∷ []) n h.0, h.1))

-- the entry of the part that has a need, and the first of that part
record HasEntry {E K : Type 0} (key : NeedTree → K) (IsEntry : NeedTree → List NeedTree → E → Type 0) (needs : List NeedTree) (n : NeedTree) (es : List E) : Type 0 where
  first : NeedTree
  row : List NeedTree
  part : IsPart key (key first) needs row
  begins : Has row first
  same : key first ≡ key n
  entry : E
  there : Has es entry
  is : IsEntry first row entry

entry_there : {E K : Type 0} (key : NeedTree → K) (IsEntry : NeedTree → List NeedTree → E → Type 0) (needs firsts : List NeedTree) (rows : List (List NeedTree)) (es : List E) → AreParts key needs firsts rows → AreEntries IsEntry firsts rows es
    → (n : NeedTree) → Has needs n → HasEntry key IsEntry needs n es
entry_there key IsEntry needs firsts rows es parts entries n has =
    let f = parts.there n has in
    let place : ℕ = f.1.0 in
    let within : place < length firsts = slice_get_within firsts place f.0 f.1.1 in
    let size = parts.so_many in
    let row = got rows place (omega (arith, within, size)) in
    let part = parts.parts place f.0 row.0 f.1.1 row.1 in
    let entry = entries.each place f.0 row.0 f.1.1 row.1 in
    record { first = f.0; row = row.0; part = part.0; begins = (0, part.1); same = f.2; entry = entry.0; there = (place, entry.1); is = entry.2 }

-- ---- what is asked for

abbrev pub none_counted : Counts
none_counted = record { interfaces = 0; worlds = 0 }

module _ (needs : List NeedTree) (items : Items) (are : AreItemsOf needs items) where
  pub interfaces_numbered : AreNumbered interfaces items (interfaces_in items)
  interfaces_numbered = record { there = interface_item needs items are; below = interface_below needs items are; alone = interface_alone needs items are }

  pub worlds_numbered : AreNumbered worlds items (worlds_in items)
  worlds_numbered = record { there = world_item needs items are; below = world_below needs items are; alone = world_alone needs items are }

module _ (needs : List NeedTree) (items : Items) (are : AreItemsOf needs items) (one_owner : (n m : NeedTree) → Has needs n → Has needs m → AskOfOne n m → need_owner n ≡ need_owner m) where
  one_item : (w : Owner) (h i : AstItem) → Has items (w, h) → Has items (w, i) → h ≡ i
  one_item w h i (j, at_j) (k, at_k) =
      let same : j ≡ k = are.once j k w h i at_j at_k in
      ap (λ (e : Owner × AstItem). e.1) (same_Some (w, h) (w, i) (sym at_j ∙ ap (slice_get items) same ∙ at_k))

  item_asked : (es : List PackageEntry) (spans : List Span) → AreDeps items needs es spans → (n : NeedTree) → Has needs n → (i : AstItem) → Has items (need_owner n, i) → (e : PackageEntry) × Has es e × (f : ItemEntry) × Has e.1 f × (f.1.0 ≡ i)
  item_asked es spans deps n has i there =
      let whole = entry_there package_key (IsPackageDep items) needs deps.firsts deps.rows es deps.parts deps.entries n has in
      let of_package = whole.is.items_are in
      let in_row = part_has package_key (package_key whole.first) needs whole.row whole.part n has (sym whole.same) in
      let one = entry_there item_key (IsItemDep items) whole.row of_package.firsts of_package.rows whole.entry.1 of_package.parts of_package.entries n in_row in
      let first_in = part_of item_key (item_key one.first) whole.row one.row one.part one.first one.begins in
      let first_of = part_of package_key (package_key whole.first) needs whole.row whole.part one.first first_in.0 in
      let owners = one_owner one.first n first_of.0 has (record { package_is = first_of.1 ∙ whole.same; item_is = one.same }) in
      (whole.entry, whole.there, one.entry, one.there, one_item (need_owner n) one.entry.1.0 i (subst (λ (w : Owner). Has items (w, one.entry.1.0)) owners one.is.item) there)

  -- each of a sort is counted
  pub all_counted : (s : Sort) (bound : ℕ) → AreNumbered s items bound → {S : Type 0} (es : List (PackageName × IndexMap (String Global) (AstItem × Vec Stability Global) S)) (spans : List Span) → AreDeps items needs (package_entries es) spans → bound ≤ s.total (counts_of (items_of es))
  all_counted s bound numbered {S} es spans deps =
      let all : bound ≤ length (flat_map (numbers_in s) (items_of es)) = many bound (flat_map (numbers_in s) (items_of es)) (λ j less. there j less) in
      let sum : s.total (counts_of (items_of es)) ≡ s.total none_counted + length (flat_map (numbers_in s) (items_of es)) = deps_counted s none_counted (items_of es) in
      omega (arith, all, sum)
    where
      there : (j : ℕ) → j < bound → Has (flat_map (numbers_in s) (items_of es)) j
      there j less =
          let item = numbered.there j less in
          let need = are.needed item.0 (s.id j) item.1 in
          let h = item_asked (package_entries es) spans deps need.0 need.1 (s.id j) (subst (λ (w : Owner). Has items (w, s.id j)) (sym need.2) item.1) in
          let e = h.0 in
          let x = got_mapped (λ (d : PackageName × IndexMap (String Global) (AstItem × Vec Stability Global) S). (d.0, d.1.entries)) es h.1.0 e h.1.1 in
          let at : Has (items_of es) e.1 = (h.1.0, slice_get-map (λ (d : PackageName × IndexMap (String Global) (AstItem × Vec Stability Global) S). d.1.entries) es h.1.0 ∙ ap (option_map (λ (d : PackageName × IndexMap (String Global) (AstItem × Vec Stability Global) S). d.1.entries)) x.1 ∙ ap (λ (z : PackageEntry). Some z.1) x.2) in
          let number : Has (s.numbers h.2.1.0) j = subst (λ (ns : List ℕ). Has ns j) (sym (ap s.numbers h.4 ∙ s.own j)) (has_here j []) in
          flat_has (numbers_in s) (items_of es) e.1 j at (flat_has (λ (f : ItemEntry). s.numbers f.1.0) e.1 h.2 j h.3 number)
