-- Packages that a graph takes together have no cause to be refused.
use Rattle.std.proofs.Common.{◌≡◌, ℕ, ◌+◌, zero, suc, Bool, List, [], ◌∷◌, inl, inr, Some, refl, sym, ap, ap₂, subst, ◌∙◌, map, length}
use Rattle.std.proofs.lemmas.Option.{same_Some}
use Rattle.std.specs.Prelude.{slice_get}
use Rattle.wit_order.specs.Order.{Has, AreDependenciesFirst}
use Rattle.wit_order.specs.Places.{Rows}
use Rattle.wit_order.proofs.Orders.{up_to_both}
use Rattle.wit_types.specs.declared.«package».PackageName.{PackageName}
use Rattle.wit_types.specs.declared.«package».UnresolvedPackage.{UnresolvedPackage}
use Rattle.wit_features.specs.Features.{FeatureSet}
use Rattle.wit_package_order.specs.Packages.{DependsOn, IsOrder, AreAt}
use Rattle.wit_groups.specs.Passed.wit_graph_parts-declared-fault-PushFault.{PushFault}
use Rattle.wit_groups.specs.Passed.wit_graph_parts-declared-fault-PushFault-TheVariants.{OutOfMemory}
use Rattle.wit_groups.specs.Passed.wit_graph-Graph.{Graph}
use Rattle.wit_groups.specs.Pushed.{ArePushed, OneIsRefused}
use Rattle.wit_groups.specs.declared.fault.GroupFault.TheVariants.{PackageCycle, ComesTwice, Push}
use Rattle.wit_push_causes.specs.Graphs.{AreSameRows, IsSameGraph}
use Rattle.wit_push_causes.specs.Causes.{PushedPackagesHaveNoCause, PushedPackagesHaveNoCauseElsewhere, PushedGraphsSayTheSame, SayingTheSameIsAnEquivalence, AskForOne, GroupsTogetherHaveNoCause, GroupsTogetherSayTheSame}
use Rattle.wit_push_causes.proofs.Lists.{head_of, tail_of, not_empty, get_has}
use Rattle.wit_push_causes.proofs.Rows.{own_rows}
use Rattle.wit_push_causes.proofs.Pushed.{no_cause, ids_same, graphs_same}

-- ---- graphs that say the same

same_self : (g : Graph) → IsSameGraph g g
same_self g = record { names = refl; packages = refl; types = refl; natures = refl; interfaces = refl; uses = own_rows g.tables.interfaces.uses; listed = refl; elaborated = refl }

rows_back : (g h : Rows) → AreSameRows g h → AreSameRows h g
rows_back [] [] a = tt
rows_back [] (y ∷ h) a = absurd a
rows_back (x ∷ g) [] a = absurd a
rows_back (x ∷ g) (y ∷ h) a = (λ j. ((a.0 j).1, (a.0 j).0), rows_back g h a.1)

rows_on : (g h k : Rows) → AreSameRows g h → AreSameRows h k → AreSameRows g k
rows_on [] [] [] a b = tt
rows_on [] [] (z ∷ k) a b = absurd b
rows_on [] (y ∷ h) k a b = absurd a
rows_on (x ∷ g) [] k a b = absurd a
rows_on (x ∷ g) (y ∷ h) [] a b = absurd b
rows_on (x ∷ g) (y ∷ h) (z ∷ k) a b = (λ j. (λ h. (b.0 j).0 ((a.0 j).0 h), λ h. (a.0 j).1 ((b.0 j).1 h)), rows_on g h k a.1 b.1)

pub equivalence : SayingTheSameIsAnEquivalence
equivalence = record {
  itself = same_self;
  back = λ g h a. record {
    names = sym a.names;
    packages = sym a.packages;
    types = sym a.types;
    natures = sym a.natures;
    interfaces = sym a.interfaces;
    uses = rows_back g.tables.interfaces.uses h.tables.interfaces.uses a.uses;
    listed = sym a.listed;
    elaborated = sym a.elaborated;
  };
  on = λ g h k a b. record {
    names = b.names ∙ a.names;
    packages = a.packages ∙ b.packages;
    types = a.types ∙ b.types;
    natures = b.natures ∙ a.natures;
    interfaces = a.interfaces ∙ b.interfaces;
    uses = rows_on g.tables.interfaces.uses h.tables.interfaces.uses k.tables.interfaces.uses a.uses b.uses;
    listed = a.listed ∙ b.listed;
    elaborated = a.elaborated ∙ b.elaborated;
  };
}

-- ---- one package

pub none_elsewhere : PushedPackagesHaveNoCauseElsewhere
none_elsewhere eq features old other p new id fault one same h cause = no_cause eq features old other same p one new id h fault cause

pub none_here : PushedPackagesHaveNoCause
none_here eq features old p new id fault one h cause = no_cause eq features old old (same_self old) p one new id h fault cause

pub say_the_same : PushedGraphsSayTheSame
say_the_same eq features old other p new also id at one same h k =
    (graphs_same eq features old other same p one new id h also at k, ids_same eq features old other same p one new id h also at k)

-- ---- several

module _ (ps : List UnresolvedPackage) where
  sorted_one : (order : List ℕ) (xs ys : List UnresolvedPackage) → AreAt ps order xs → AreAt ps order ys → xs ≡ ys
  sorted_one order xs ys a b = somes xs ys (sym a ∙ b)
    where
      somes : (xs ys : List UnresolvedPackage) → map (λ (p : UnresolvedPackage). Some p) xs ≡ map (λ (p : UnresolvedPackage). Some p) ys → xs ≡ ys
      somes [] [] e = refl
      somes [] (y ∷ ys) e = absurd (not_empty (Some y) (map (λ (p : UnresolvedPackage). Some p) ys) e)
      somes (x ∷ xs) [] e = absurd (not_empty (Some x) (map (λ (p : UnresolvedPackage). Some p) xs) (sym e))
      somes (x ∷ xs) (y ∷ ys) e =
          ap₂ (λ (z : UnresolvedPackage) (zs : List UnresolvedPackage). z ∷ zs)
          (same_Some x y (head_of (Some x) (Some y) (map (λ (p : UnresolvedPackage). Some p) xs) (map (λ (p : UnresolvedPackage). Some p) ys) e))
          (somes xs ys (tail_of (Some x) (Some y) (map (λ (p : UnresolvedPackage). Some p) xs) (map (λ (p : UnresolvedPackage). Some p) ys) e))

  sorted_has : (order : List ℕ) (xs : List UnresolvedPackage) → AreAt ps order xs → (p : UnresolvedPackage) → Has xs p → Has ps p
  sorted_has [] [] a p h = absurd h
  sorted_has [] (x ∷ xs) a p h = absurd (not_empty (Some x) (map (λ (q : UnresolvedPackage). Some q) xs) a)
  sorted_has (i ∷ order) [] a p h = absurd h
  sorted_has (i ∷ order) (x ∷ xs) a p (inl here) = get_has ps i p (head_of (slice_get ps i) (Some x) (map (slice_get ps) order) (map (λ (q : UnresolvedPackage). Some q) xs) a ∙ ap (λ (q : UnresolvedPackage). Some q) (sym here))
  sorted_has (i ∷ order) (x ∷ xs) a p (inr later) = sorted_has order xs (tail_of (slice_get ps i) (Some x) (map (slice_get ps) order) (map (λ (q : UnresolvedPackage). Some q) xs) a) p later

module _ (eq : PackageName → PackageName → Bool) (features : FeatureSet) where
  order_one : (ps : List UnresolvedPackage) (xs ys : List ℕ) → IsOrder eq ps xs → IsOrder eq ps ys → xs ≡ ys
  order_one ps xs ys a b = up_to_both xs ys (a.least ys b.is_order) (b.least xs a.is_order)

  -- another graph that says the same, with the next package, says the same as the one with it
  none_of_them : (old other : Graph) (ps : List UnresolvedPackage) (new : Graph) (fault : PushFault) → IsSameGraph old other → AskForOne ps → ArePushed eq features old ps new → OneIsRefused eq features other ps fault → fault ≡ OutOfMemory
  none_of_them old other [] new fault same one pushed refused = absurd refused
  none_of_them old other (p ∷ ps) new fault same one (next, whole, h, more) (inl cause) = none_elsewhere eq features old other p next (length old.tables.packages) fault (one p (inl refl)) same h cause
  none_of_them old other (p ∷ ps) new fault same one (next, whole, h, more) (inr (also, k, refused)) =
      let r = say_the_same eq features old other p next also (length old.tables.packages) (length other.tables.packages) (one p (inl refl)) same h k in
      none_of_them next also ps new fault r.0 (λ q has. one q (inr has)) more refused

  all_the_same : (old other : Graph) (ps : List UnresolvedPackage) (new also : Graph) → IsSameGraph old other → AskForOne ps → ArePushed eq features old ps new → ArePushed eq features other ps also → IsSameGraph new also
  all_the_same old other [] new also same one e f = subst (λ (g : Graph). IsSameGraph g also) (sym e) (subst (IsSameGraph old) (sym f) same)
  all_the_same old other (p ∷ ps) new also same one (x, whole, h, more) (y, is, k, others) =
      let r = say_the_same eq features old other p x y (length old.tables.packages) (length other.tables.packages) (one p (inl refl)) same h k in
      all_the_same x y ps new also r.0 (λ q has. one q (inr has)) more others

  sorted_ask : (ps : List UnresolvedPackage) (order : List ℕ) (sorted : List UnresolvedPackage) → AskForOne ps → AreAt ps order sorted → AskForOne sorted
  sorted_ask ps order sorted one are q has = one q (sorted_has ps order sorted are q has)

pub none_together : GroupsTogetherHaveNoCause
none_together eq features old ps new id (PackageCycle at) one a cause = absurd (a.no_circle at cause)
none_together eq features old ps new id (ComesTwice at) one a cause = absurd (a.distinct at cause)
none_together eq features old ps new id (Push fault) one a (inl e) = ap Push e
none_together eq features old ps new id (Push fault) one a (inr r) =
    let order : r.order ≡ a.order = order_one eq features ps r.order a.order r.is_order a.is_order in
    let sorted : r.sorted ≡ a.sorted = sorted_one ps a.order r.sorted a.sorted (subst (λ (l : List ℕ). AreAt ps l r.sorted) order r.are_sorted) a.are_sorted in
    ap Push (none_of_them eq features old old a.sorted new fault (same_self old) (sorted_ask eq features ps a.order a.sorted one a.are_sorted) a.pushed
    (subst (λ (l : List UnresolvedPackage). OneIsRefused eq features old l fault) sorted r.refused))

-- ---- the first of them has one place

module _ (n : ℕ) (needs : ℕ → ℕ → Type 0) where
  not_before : (before xs : List ℕ) (i x : ℕ) → AreDependenciesFirst n needs before xs → Has before x → slice_get xs i ≡ Some x → ⊥
  not_before before [] i x first h at = absurd cc
  not_before before (y ∷ xs) zero x first h at = first.0.0 (subst (Has before) (sym (same_Some y x at)) h)
  not_before before (y ∷ xs) (suc i) x first h at = not_before (y ∷ before) xs i x first.1 (inr h) at

  place_one : (before xs : List ℕ) (i j x : ℕ) → AreDependenciesFirst n needs before xs → slice_get xs i ≡ Some x → slice_get xs j ≡ Some x → i ≡ j
  place_one before [] i j x first a b = absurd cc
  place_one before (y ∷ xs) zero zero x first a b = refl
  place_one before (y ∷ xs) zero (suc j) x first a b = absurd (not_before (y ∷ before) xs j x first.1 (inl (sym (same_Some y x a))) b)
  place_one before (y ∷ xs) (suc i) zero x first a b = absurd (not_before (y ∷ before) xs i x first.1 (inl (sym (same_Some y x b))) a)
  place_one before (y ∷ xs) (suc i) (suc j) x first a b = ap suc (place_one (y ∷ before) xs i j x first.1 a b)

pub together_same : GroupsTogetherSayTheSame
together_same eq features old ps new also id at one a b =
    let order : b.order ≡ a.order = order_one eq features ps b.order a.order b.is_order a.is_order in
    let sorted : b.sorted ≡ a.sorted = sorted_one ps a.order b.sorted a.sorted (subst (λ (l : List ℕ). AreAt ps l b.sorted) order b.are_sorted) a.are_sorted in
    let place : b.place ≡ a.place = place_one (length ps) (DependsOn eq ps) [] a.order b.place a.place 0 a.is_order.is_order.first (ap (λ (l : List ℕ). slice_get l b.place) (sym order) ∙ b.first) a.first in (
      all_the_same eq features old old a.sorted new also (same_self old) (sorted_ask eq features ps a.order a.sorted one a.are_sorted) a.pushed
          (subst (λ (l : List UnresolvedPackage). ArePushed eq features old l also) sorted b.pushed),
      b.id_is ∙ ap (λ (k : ℕ). length old.tables.packages + k) place ∙ sym a.id_is,
    )
