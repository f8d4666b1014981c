-- No more of a sort are counted, interfaces or worlds of other packages, than a package asks for.
use Rattle.std.proofs.Common.{◌≡◌, ℕ, ◌+◌, ◌<◌, ◌≤◌, List, [], ◌∷◌, ◌++◌, length, Vec, String, Some, get_or, refl, sym, subst, ap, ◌∙◌, arith}
use Rattle.std.proofs.lemmas.Option.{slice_get-get_or, slice_get_within}
use Rattle.std.specs.Prelude.{slice_get, flat_map}
use Rattle.std.specs.declared.alloc.Global.{Global}
use Rattle.indexmap.specs.IndexMap.{IndexMap}
use Rattle.indexmap.proofs.IndexTableLemmas.Probe.{pigeonhole}
use Rattle.wit_types.specs.declared.stability.Stability.{Stability}
use Rattle.wit_types.specs.declared.«package».AstItem.{AstItem}
use Rattle.wit_types.specs.declared.«package».PackageName.{PackageName}
use Rattle.wit_words.specs.declared.source_map.Span.{Span}
use Rattle.wit_package.specs.Passed.wit_lookups-declared-asks-Asked.{Asked}
use Rattle.wit_package.specs.Passed.wit_lookups-declared-asks-Asked-TheVariants.{Interface, World}
use Rattle.wit_package.specs.Passed.wit_arena-Tree.{Name, Owner}
use Rattle.wit_package.specs.Passed.wit_arena-Meaning.{Has}
use Rattle.wit_package.specs.Passed.wit_foreign-Needs.{NeedTree}
use Rattle.wit_package.specs.Passed.wit_foreign-Items.{Items, place_asked, need_owner}
use Rattle.wit_package.specs.Passed.wit_foreign-Groups.{package_key, item_key}
use Rattle.wit_package.specs.Passed.wit_foreign-Deps.{ItemEntry, PackageEntry, package_entries, IsItemDep, AreItemDeps, IsPackageDep, AreDeps}
use Rattle.wit_package.specs.Passed.wit_resolved_scopes-Each.{AreApartBy}
use Rattle.wit_package.proofs.Passed.wit_readiness-Flat.{in_flat}
use Rattle.wit_finding.specs.Asks.{items_of}
use Rattle.wit_finding.specs.Foreign.{counts_of}
use Rattle.wit_well_formed.proofs.Lists.{all_apart}
use Rattle.wit_well_formed.proofs.Counted.{entry_of}
use Rattle.wit_well_formed.proofs.Numbers.{Sort, AreNumbered, numbers_in, none_counted, deps_counted, part_of}

-- numbers that are apart are no more than those below their bound
few : (ns : List ℕ) (m : ℕ) → AreApartBy (λ (n : ℕ). n) ns → ((n : ℕ) → Has ns n → n < m) → length ns ≤ m
few ns m apart below = pigeonhole (length ns) m (λ (i : ℕ). get_or ns i 0) (λ i less. below (get_or ns i 0) (i, slice_get-get_or ns i 0 less))
    (λ i j a b same. apart i j (get_or ns i 0) (get_or ns j 0) (slice_get-get_or ns i 0 a) (slice_get-get_or ns j 0 b) same)

-- so is the one number of a list
one_apart : (ns : List ℕ) → length ns ≤ 1 → AreApartBy (λ (n : ℕ). n) ns
one_apart ns one i j x y at_i at_j same =
    let low : i < length ns = slice_get_within ns i x at_i in
    let less : j < length ns = slice_get_within ns j y at_j in
    omega (arith, low, less, one)

-- ---- what is asked for

asked_name : (a b : Asked) (x y : Name) → place_asked a x ≡ place_asked b y → x ≡ y
asked_name Interface Interface x y e = cc
asked_name Interface World x y e = absurd cc
asked_name World Interface x y e = absurd cc
asked_name World World x y e = cc

module _ (s : Sort) (needs : List NeedTree) (items : Items) (bound : ℕ) (are : AreNumbered s items bound) where
  numbered : (w : Owner) (i : AstItem) (x : ℕ) → Has items (w, i) → Has (s.numbers i) x → Has items (w, s.id x)
  numbered w i x has is = subst (λ (h : AstItem). Has items (w, h)) (s.only i x is) has

  -- items of one package have numbers of their own
  items_apart : (ns : List NeedTree) (es : List ItemEntry) → AreItemDeps items ns es → AreApartBy (λ (n : ℕ). n) (numbers_in s es)
  items_apart ns es d = all_apart (λ (n : ℕ). n) (λ (e : ItemEntry). s.numbers e.1.0) es (λ e has. one_apart (s.numbers e.1.0) (s.one e.1.0)) one
    where
      one : (i j : ℕ) (e f : ItemEntry) (x y : ℕ) → slice_get es i ≡ Some e → slice_get es j ≡ Some f → Has (s.numbers e.1.0) x → Has (s.numbers f.1.0) y → x ≡ y → i ≡ j
      one i j e f x y at_i at_j has_x has_y same =
          let a = entry_of (IsItemDep items) d.firsts d.rows es d.entries d.parts.so_many i e at_i in
          let b = entry_of (IsItemDep items) d.firsts d.rows es d.entries d.parts.so_many j f at_j in
          let second = subst (λ (n : ℕ). Has items (need_owner b.0, s.id n)) (sym same) (numbered (need_owner b.0) f.1.0 y b.4.item has_y) in
          let owners = are.alone (need_owner a.0) (need_owner b.0) x (numbered (need_owner a.0) e.1.0 x a.4.item has_x) second in
          d.parts.apart i j a.0 b.0 a.2 b.2 (asked_name a.0.asked b.0.asked (item_key a.0) (item_key b.0) (ap (λ (w : Owner). w.place) owners))

  module _ (es : List PackageEntry) (spans : List Span) (d : AreDeps items needs es spans) where
    -- a number is that of an item of the package
    record IsOf (k x : ℕ) : Type 0 where
      first : NeedTree
      there : slice_get d.firsts k ≡ Some first
      owner : Owner
      item : Has items (owner, s.id x)
      its : owner.package_text ≡ package_key first

    number_in : (k : ℕ) (e : PackageEntry) (x : ℕ) → slice_get es k ≡ Some e → Has (numbers_in s e.1) x → IsOf k x
    number_in k e x at has =
        let whole = entry_of (IsPackageDep items) d.firsts d.rows es d.entries d.parts.so_many k e at in
        let within = d.parts.parts k whole.0 whole.1 whole.2 whole.3 in
        let of_package = whole.4.items_are in
        let h = in_flat (λ (z : ItemEntry). s.numbers z.1.0) e.1 x has in
        let one = entry_of (IsItemDep items) of_package.firsts of_package.rows e.1 of_package.entries of_package.parts.so_many h.1.0 h.0 h.1.1 in
        let part = of_package.parts.parts h.1.0 one.0 one.1 one.2 one.3 in
        let in_package = part_of item_key (item_key one.0) whole.1 one.1 part.0 one.0 (0, part.1) in
        let of_key = part_of package_key (package_key whole.0) needs whole.1 within.0 one.0 in_package.0 in
        record { first = whole.0; there = whole.2; owner = need_owner one.0; item = numbered (need_owner one.0) h.0.1.0 x one.4.item h.2; its = of_key.1 }

    -- and so have those of all packages
    all_numbers_apart : AreApartBy (λ (n : ℕ). n) (flat_map (λ (e : PackageEntry). numbers_in s e.1) es)
    all_numbers_apart = all_apart (λ (n : ℕ). n) (λ (e : PackageEntry). numbers_in s e.1) es each one
      where
        each : (e : PackageEntry) → Has es e → AreApartBy (λ (n : ℕ). n) (numbers_in s e.1)
        each e has = (let whole = entry_of (IsPackageDep items) d.firsts d.rows es d.entries d.parts.so_many has.0 e has.1 in items_apart whole.1 e.1 whole.4.items_are)

        one : (i j : ℕ) (e f : PackageEntry) (x y : ℕ) → slice_get es i ≡ Some e → slice_get es j ≡ Some f → Has (numbers_in s e.1) x → Has (numbers_in s f.1) y → x ≡ y → i ≡ j
        one i j e f x y at_i at_j has_x has_y same =
            let a = number_in i e x at_i has_x in
            let b = number_in j f y at_j has_y in
            let owners = are.alone a.owner b.owner x a.item (subst (λ (n : ℕ). Has items (b.owner, s.id n)) (sym same) b.item) in
            d.parts.apart i j a.first b.first a.there b.there (sym a.its ∙ ap (λ (w : Owner). w.package_text) owners ∙ b.its)

    numbers_below : (x : ℕ) → Has (flat_map (λ (e : PackageEntry). numbers_in s e.1) es) x → x < bound
    numbers_below x has =
        let h = in_flat (λ (e : PackageEntry). numbers_in s e.1) es x has in
        let n = number_in h.1.0 h.0 x h.1.1 h.2 in
        are.below n.owner x n.item

    numbers_few : length (flat_map (λ (e : PackageEntry). numbers_in s e.1) es) ≤ bound
    numbers_few = few (flat_map (λ (e : PackageEntry). numbers_in s e.1) es) bound all_numbers_apart numbers_below

  pub few_counted : {S : Type 0} (es : List (PackageName × IndexMap (String Global) (AstItem × Vec Stability Global) S)) (spans : List Span) → AreDeps items needs (package_entries es) spans → s.total none_counted ≡ 0 → s.total (counts_of (items_of es)) ≤ bound
  few_counted {S} es spans deps none =
      let sum : s.total (counts_of (items_of es)) ≡ s.total none_counted + length (flat_map (numbers_in s) (items_of es)) = deps_counted s none_counted (items_of es) in
      let same : length (flat_map (λ (e : PackageEntry). numbers_in s e.1) (package_entries es)) ≡ length (flat_map (numbers_in s) (items_of es)) = ap length (same_numbers es) in
      let most = numbers_few (package_entries es) spans deps in
      omega (arith, sum, none, same, most)
    where
      same_numbers : (ps : List (PackageName × IndexMap (String Global) (AstItem × Vec Stability Global) S)) → flat_map (λ (e : PackageEntry). numbers_in s e.1) (package_entries ps) ≡ flat_map (numbers_in s) (items_of ps)
      same_numbers [] = refl
      same_numbers (p ∷ ps) = ap (λ (ns : List ℕ). numbers_in s p.1.entries ++ ns) (same_numbers ps)
