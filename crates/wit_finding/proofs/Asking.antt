-- What is asked by the rest of a list, and by all of it.
use Rattle.std.proofs.Common.{◌≡◌, ℕ, ◌+◌, ◌<◌, List, [], ◌∷◌, ◌++◌, inl, inr, Option, Some, refl, sym, ap, ◌∙◌, subst, append_assoc, map, drop, length, arith, zero, suc, get_or, String, Vec}
use Rattle.std.proofs.lemmas.Grind.{flat_map-append}
use Rattle.std.proofs.lemmas.List.{append-nil, length-map}
use Rattle.std.proofs.lemmas.Option.{slice_get_within, slice_get_read}
use Rattle.std.specs.Prelude.{slice_get}
use Rattle.std.specs.declared.alloc.Global.{Global}
use Rattle.indexmap.specs.IndexMap.{IndexMap}
use Rattle.wit_moves.specs.Passed.wit_order-Order.{Has}
use Rattle.wit_words.specs.declared.source_map.Span.{Span}
use Rattle.wit_moves.specs.Passed.wit_types-declared-interface-Interface.{Interface}
use Rattle.wit_moves.specs.Passed.wit_types-declared-world-World.{World}
use Rattle.wit_moves.specs.Passed.wit_types-declared-package-AstItem.{AstItem}
use Rattle.wit_moves.specs.Passed.wit_types-declared-package-Package.{Package}
use Rattle.wit_moves.specs.Passed.wit_types-declared-stability-Stability.{Stability}
use Rattle.wit_moves.specs.Passed.wit_features-Features.{FeatureSet}
use Rattle.wit_finding.specs.declared.fault.FindFault.{FindFault}
use Rattle.wit_finding.specs.declared.fault.FindFault.TheVariants.{PackageNotFound, ItemNotFound, OutOfMemory}
use Rattle.wit_finding.specs.Asks.{Ask, ask, ItemEntry, asks_of, asks_at, asks_in, items_of, pair_of, finds, found_by, IsMissing, IsMissingAt, IsAskCause, AskBreaks}
use Rattle.wit_finding.proofs.Having.{has_was, left_from}

module _ (features : FeatureSet) (interfaces : List Interface) (worlds : List World) where
  abbrev Breaks : List Ask → Span → Type 0
  Breaks asks at = AskBreaks features interfaces worlds asks at

  has_behind : (xs ys : List Ask) (a : Ask) → Has ys a → Has (xs ++ ys) a
  has_behind [] ys a h = h
  has_behind (x ∷ xs) ys a h = inr (has_behind xs ys a h)

  has_either : (xs ys : List Ask) (a : Ask) (P : Type 0) → (Has xs a → P) → (Has ys a → P) → Has (xs ++ ys) a → P
  has_either [] ys a P f g h = g h
  has_either (x ∷ xs) ys a P f g h = elim h as (λ _. P) [ inl here ↦ f (inl here) | inr there ↦ has_either xs ys a P (λ t. f (inr t)) g there ]

  -- what the rest breaks is what all break
  pub record Leads (all rest : List Ask) : Type 0 where
    pub kept : (at : Span) → Breaks all at → Breaks rest at
    pub leads : (at : Span) → Breaks rest at → Breaks all at

  pub leads_all : (all : List Ask) → Leads all all
  leads_all all = record { kept = λ at b. b; leads = λ at b. b }

  module _ (all xs rest : List Ask) (so_far : Leads all (xs ++ rest)) where
    -- those at the front break nothing
    pub leads_past : ((at : Span) → Breaks xs at → ⊥) → Leads all rest
    leads_past none = record {
      kept = λ at b.
          let c = so_far.kept at b in
          has_either xs rest c.ask (Breaks rest at) (λ h. absurd (none at (record { ask = c.ask; there = h; missing = c.missing }))) (λ h. record { ask = c.ask; there = h; missing = c.missing }) c.there;
      leads = λ at b. so_far.leads at (record { ask = b.ask; there = has_behind xs rest b.ask b.there; missing = b.missing });
    }

    -- they do
    pub cause_past : (fault : FindFault) → IsAskCause features interfaces worlds xs fault → IsAskCause features interfaces worlds all fault
    cause_past (ItemNotFound at) b = so_far.leads at (record { ask = b.ask; there = has_was xs rest b.ask b.there; missing = b.missing })
    cause_past (PackageNotFound at) b = b
    cause_past OutOfMemory b = b

  -- the same of one
  one_breaks : (a : Ask) (at : Span) → Breaks (a ∷ []) at → IsMissingAt features interfaces worlds a at
  one_breaks a at b = elim b.there as (λ _. IsMissingAt features interfaces worlds a at) [ inl here ↦ subst (λ (x : Ask). IsMissingAt features interfaces worlds x at) here b.missing | inr there ↦ absurd there ]

  pub leads_on : (all : List Ask) (a : Ask) (rest : List Ask) → Leads all (a ∷ rest) → ((at : Span) → IsMissingAt features interfaces worlds a at → ⊥) → Leads all rest
  leads_on all a rest so_far none = leads_past all (a ∷ []) rest so_far (λ at b. none at (one_breaks a at b))

  one_cause : (a : Ask) (fault : FindFault) → IsMissing features interfaces worlds a fault → IsAskCause features interfaces worlds (a ∷ []) fault
  one_cause a (ItemNotFound at) m = record { ask = a; there = inl refl; missing = m }
  one_cause a (PackageNotFound at) m = m
  one_cause a OutOfMemory m = m

  pub cause_here : (all : List Ask) (a : Ask) (rest : List Ask) → Leads all (a ∷ rest) → (fault : FindFault) → IsMissing features interfaces worlds a fault → IsAskCause features interfaces worlds all fault
  cause_here all a rest so_far fault m = cause_past all (a ∷ []) rest so_far fault (one_cause a fault m)

  pub leads_done : (all : List Ask) → Leads all [] → (at : Span) → Breaks all at → ⊥
  leads_done all so_far at b = (so_far.kept at b).there

-- ---- what is found

pub same_ask : (p : Package) (x y : List ℕ) (i : AstItem) (g h : List Stability) → x ≡ y → g ≡ h → ask p x i g ≡ ask p y i h
same_ask p x y i g h e f = rw (e, f) refl

-- one more is found, or what some ask for
module _ (features : FeatureSet) (found now total : List (AstItem × AstItem)) where
  pub found_one : (a : Ask) (rest left : List Ask) → now ≡ found ++ pair_of a.item (finds features a) → left ≡ a ∷ rest → found ++ found_by features left ≡ total → now ++ found_by features rest ≡ total
  found_one a rest left e is so_far =
      ap (λ (ps : List (AstItem × AstItem)). ps ++ found_by features rest) e
      ∙ append_assoc found (pair_of a.item (finds features a)) (found_by features rest)
      ∙ ap (λ (xs : List Ask). found ++ found_by features xs) (sym is)
      ∙ so_far

  pub found_on : (xs rest left : List Ask) → now ≡ found ++ found_by features xs → left ≡ xs ++ rest → found ++ found_by features left ≡ total → now ++ found_by features rest ≡ total
  found_on xs rest left e is so_far =
      ap (λ (ps : List (AstItem × AstItem)). ps ++ found_by features rest) e
      ∙ append_assoc found (found_by features xs) (found_by features rest)
      ∙ ap (λ (ps : List (AstItem × AstItem)). found ++ ps) (sym (flat_map-append (λ (a : Ask). pair_of a.item (finds features a)) xs rest))
      ∙ ap (λ (xs : List Ask). found ++ found_by features xs) (sym is)
      ∙ so_far

  pub found_all : (left : List Ask) → left ≡ [] → found ++ found_by features left ≡ total → found ≡ total
  found_all left is so_far = sym (append-nil found) ∙ ap (λ (xs : List Ask). found ++ found_by features xs) (sym is) ∙ so_far

-- ---- what is asked of each package

-- from some place on
abbrev pub asks_from : List Package → List ℕ → List (List ItemEntry) → ℕ → List Ask
asks_from packages ids ds k = asks_in packages (drop k ids) (drop k ds)

asks_on : (packages : List Package) (ids : List ℕ) (ds : List (List ItemEntry)) (k n i : ℕ) (p : Package) (es : List ItemEntry)
    → n ≡ k + 1 → slice_get ids k ≡ Some i → slice_get packages i ≡ Some p → slice_get ds k ≡ Some es → asks_from packages ids ds k ≡ asks_of p es ++ asks_from packages ids ds n
asks_on packages ids ds k n i p es next at there is =
    ap (λ (is : List ℕ). asks_in packages is (drop k ds)) (left_from ids k i at)
    ∙ ap (λ (ds : List (List ItemEntry)). asks_in packages (i ∷ drop (k + 1) ids) ds) (left_from ds k es is)
    ∙ ap (λ (o : Option Package). asks_at o es ++ asks_from packages ids ds (k + 1)) there
    ∙ ap (λ (m : ℕ). asks_of p es ++ asks_from packages ids ds m) (sym next)

none_asked : (packages : List Package) (ids : List ℕ) → asks_in packages ids [] ≡ []
none_asked packages [] = refl
none_asked packages (i ∷ is) = refl

abbrev Items : Type 0 → Type 0
Items S = IndexMap (String Global) (AstItem × Vec Stability Global) S

abbrev Dep : Type 0 → Type 0 → Type 0
Dep K S = K × Items S

module _ {K S : Type 0} where
  -- what is left of what is asked, at a place
  pub items_at : (deps : List (Dep K S)) (k : ℕ) (m : Items S) (rest : List (Items S)) → drop k (map (λ (d : Dep K S). d.1) deps) ≡ m ∷ rest → slice_get (items_of deps) k ≡ Some m.entries
  items_at [] zero m rest e = absurd cc
  items_at [] (suc k) m rest e = absurd cc
  items_at (d ∷ deps) zero m rest e = cc
  items_at (d ∷ deps) (suc k) m rest e = items_at deps k m rest e

  no_items : (deps : List (Dep K S)) (k : ℕ) → drop k (map (λ (d : Dep K S). d.1) deps) ≡ [] → drop k (items_of deps) ≡ []
  no_items [] zero e = refl
  no_items [] (suc k) e = refl
  no_items (d ∷ deps) zero e = absurd cc
  no_items (d ∷ deps) (suc k) e = no_items deps k e

  pub asks_end : (packages : List Package) (ids : List ℕ) (deps : List (Dep K S)) (k : ℕ) → drop k (map (λ (d : Dep K S). d.1) deps) ≡ [] → asks_from packages ids (items_of deps) k ≡ []
  asks_end packages ids deps k e = ap (asks_in packages (drop k ids)) (no_items deps k e) ∙ none_asked packages (drop k ids)

  pub id_at : (ids : List ℕ) (deps : List (Dep K S)) (k p i : ℕ) (m : Items S) (rest : List (Items S)) → length ids ≡ length deps → drop k (map (λ (d : Dep K S). d.1) deps) ≡ m ∷ rest → p ≡ k → i ≡ get_or ids p i
      → slice_get ids k ≡ Some i
  id_at ids deps k p i m rest size e here is =
      let l : k < length (items_of deps) = slice_get_within (items_of deps) k m.entries (items_at deps k m rest e) in
      let same : length (items_of deps) ≡ length ids = length-map deps (λ (d : Dep K S). d.1.entries) ∙ sym size in
      slice_get_read ids (length ids) k i refl (omega arith) (is ∙ ap (λ (n : ℕ). get_or ids n i) here)

  -- what is asked from a place on
  pub asks_left : (packages : List Package) (ids : List ℕ) (deps : List (Dep K S)) (k n p i : ℕ) (q : Package) (m : Items S) (rest : List (Items S)) → length ids ≡ length deps → drop k (map (λ (d : Dep K S). d.1) deps) ≡ m ∷ rest
      → p ≡ k → n ≡ k + 1 → i ≡ get_or ids p i → slice_get packages i ≡ Some q → asks_from packages ids (items_of deps) k ≡ asks_of q m.entries ++ asks_from packages ids (items_of deps) n
  asks_left packages ids deps k n p i q m rest size left here next is there = asks_on packages ids (items_of deps) k n i q m.entries next (id_at ids deps k p i m rest size left here is) there (items_at deps k m rest left)
