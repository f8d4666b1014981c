-- What each package of texts keeps of a graph is so of each graph that comes of texts.
use Rattle.std.proofs.Common.{◌≡◌, ℕ, Bool, inl, inr, Some, List, [], ◌∷◌, ◌++◌, map, refl, sym, subst, ap, ◌∙◌}
use Rattle.std.specs.Prelude.{slice_get}
use Rattle.std.specs.List.{AllZip}
use Rattle.wit_words.specs.Sources.{SourceText, total}
use Rattle.wit_order.specs.Order.{Has}
use Rattle.wit_types.specs.declared.«package».PackageName.{PackageName}
use Rattle.wit_types.specs.declared.«package».UnresolvedPackage.{UnresolvedPackage}
use Rattle.wit_features.specs.Features.{FeatureSet}
use Rattle.wit_offsets.specs.Offsets.{package_at}
use Rattle.wit_resolution.specs.Passed.wit_package-declared-group-UnresolvedPackageGroup.{UnresolvedPackageGroup}
use Rattle.wit_resolution.specs.Passed.wit_package-Group.{AreParsed}
use Rattle.wit_pushed_trees.specs.Passed.wit_graph-Graph as graph
use Rattle.wit_pushed_trees.specs.Passed.wit_graph-Graph.{Graph, IsGraph}
use Rattle.wit_pushed_trees.specs.Passed.wit_graph-Push.{IsPushed}
use Rattle.wit_pushed_trees.proofs.Passed.wit_graph-Finishing.{nothing_is_graph}
use Rattle.wit_resolution.specs.Passed.wit_groups-Pushed.{ArePushed}
use Rattle.wit_package_order.specs.Packages.{AreAt}
use Rattle.wit_package_order.proofs.Rows.{has_there}
use Rattle.wit_resolution.specs.Groups.{packages_of, packages_behind}
use Rattle.wit_resolution.specs.Texts.{IsGroupOf}
use Rattle.wit_resolution.specs.Pushes.{Resolved, AreTextsPushed}
use Rattle.text_graphs.specs.Coming.{IsCall, features, pushed, refused, ComeOfTexts, nothing, after, pushed_with, pushes_with}

-- ---- packages

-- those at places of others are among these
sorted_has : (ps : List UnresolvedPackage) (order : List ℕ) (sorted : List UnresolvedPackage) (p : UnresolvedPackage) → AreAt ps order sorted → Has sorted p → Has ps p
sorted_has ps [] [] p are h = absurd h
sorted_has ps [] (q ∷ sorted) p are h = absurd cc
sorted_has ps (i ∷ order) [] p are h = absurd h
sorted_has ps (i ∷ order) (q ∷ sorted) p are h =
    let here : slice_get ps i ≡ Some q = cc in
    let later : AreAt ps order sorted = cc in
    elim h as (λ _. Has ps p) [
      | inl same ↦ has_there ps i p (here ∙ ap Some (sym same))
      | inr rest ↦ sorted_has ps order sorted p later rest
    ]

pub has_front : {X : Type 0} (xs ys : List X) (x : X) → Has xs x → Has (xs ++ ys) x
has_front [] ys x h = absurd h
has_front (z ∷ xs) ys x h = elim h as (λ _. Has ((z ∷ xs) ++ ys) x) [ inl here ↦ inl here | inr later ↦ inr (has_front xs ys x later) ]

has_back : {X : Type 0} (xs ys : List X) (x : X) → Has ys x → Has (xs ++ ys) x
has_back [] ys x h = h
has_back (z ∷ xs) ys x h = inr (has_back xs ys x h)

abbrev pub Each : (UnresolvedPackage → Type 0) → List UnresolvedPackage → Type 0
Each Q ps = (p : UnresolvedPackage) → Has ps p → Q p

-- texts that a call pushes, each with the features that are active
abbrev with_each : FeatureSet → List (List SourceText) → List (FeatureSet × List SourceText)
with_each set files = map (λ (source : List SourceText). (set, source)) files

-- what is so of a package and the texts with which it was pushed
module _ (Q : FeatureSet → List SourceText → UnresolvedPackage → Type 0) where
  abbrev pub OfTexts : Type 0
  OfTexts = (set : FeatureSet) (source : List SourceText) (main : UnresolvedPackage) (nested : List UnresolvedPackage) → AreParsed source main nested → Each (Q set source) (main ∷ nested)

  abbrev pub Moved : Type 0
  Moved = (set : FeatureSet) (source : List SourceText) (p : UnresolvedPackage) (n : ℕ) → Q set source p → Q set source (package_at n p)

  -- it is of one of the texts that were pushed with those features
  abbrev pub IsAmong : List (FeatureSet × List SourceText) → FeatureSet → UnresolvedPackage → Type 0
  IsAmong pushes set p = (source : List SourceText) × Has pushes (set, source) × Q set source p

  moved_each : Moved → (set : FeatureSet) (source : List SourceText) (n : ℕ) (ps : List UnresolvedPackage) → Each (Q set source) ps → Each (Q set source) (map (package_at n) ps)
  moved_each law set source n [] own p has = absurd has
  moved_each law set source n (q ∷ qs) own p has = elim has as (λ _. Q set source p) [
    | inl here ↦ subst (Q set source) (sym here) (law set source q n (own q (inl refl)))
    | inr later ↦ moved_each law set source n qs (λ x h. own x (inr h)) p later
  ]

  joined : (pushes : List (FeatureSet × List SourceText)) (set : FeatureSet) (xs ys : List UnresolvedPackage) → Each (IsAmong pushes set) xs → Each (IsAmong pushes set) ys → Each (IsAmong pushes set) (xs ++ ys)
  joined pushes set [] ys one other p has = other p has
  joined pushes set (x ∷ xs) ys one other p has = elim has as (λ _. IsAmong pushes set p) [
    | inl here ↦ one p (inl here)
    | inr later ↦ joined pushes set xs ys (λ q h. one q (inr h)) other p later
  ]

  behind_each : OfTexts → Moved → (set : FeatureSet) (texts : List SourceText) (files : List (List SourceText)) (gs : List UnresolvedPackageGroup) → AllZip IsGroupOf files gs → Each (IsAmong (with_each set files) set) (packages_behind texts gs)
  behind_each of_texts moved set texts [] [] zip p has = absurd has
  behind_each of_texts moved set texts [] (g ∷ gs) zip p has = absurd zip
  behind_each of_texts moved set texts (f ∷ fs) [] zip p has = absurd zip
  behind_each of_texts moved set texts (f ∷ fs) (g ∷ gs) zip p has =
      let own = moved_each moved set f (total texts) (packages_of g) (of_texts set f g.main g.nested.items zip.0.parsed) in
      let rest = behind_each of_texts moved set (texts ++ g.source_map) fs gs zip.1 in
      joined (with_each set (f ∷ fs)) set (map (package_at (total texts)) (packages_of g)) (packages_behind (texts ++ g.source_map) gs) (λ q h. (f, inl refl, own q h)) (λ q h. (let r = rest q h in (r.0, inr r.1, r.2))) p has

-- ---- graphs

-- what is so of a graph and the texts that were pushed
module _ (eq : PackageName → PackageName → Bool) (P : List (FeatureSet × List SourceText) → Graph → Type 0) (Q : FeatureSet → List SourceText → UnresolvedPackage → Type 0) where
  -- a package of one of the texts keeps it
  abbrev pub IsKept : Type 0
  IsKept = (pushes : List (FeatureSet × List SourceText)) (set : FeatureSet) (old : Graph) (p : UnresolvedPackage) (new : Graph) (id : ℕ) → IsGraph old → IsGraph new → IsAmong Q pushes set p → IsPushed eq set old p new id → P pushes old → P pushes new

  -- and so do more texts
  abbrev pub IsKeptBehind : Type 0
  IsKeptBehind = (pushes more : List (FeatureSet × List SourceText)) (g : Graph) → P pushes g → P (pushes ++ more) g

  pushed_each : IsKept → (pushes : List (FeatureSet × List SourceText)) (set : FeatureSet) (old : Graph) (ps : List UnresolvedPackage) (new : Graph) → Each (IsAmong Q pushes set) ps → ArePushed eq set old ps new → IsGraph old → P pushes old → IsGraph new × P pushes new
  pushed_each kept pushes set old [] new own same whole so = (subst IsGraph (sym same) whole, subst (P pushes) (sym same) so)
  pushed_each kept pushes set old (p ∷ ps) new own (next, next_whole, is, more) whole so =
      pushed_each kept pushes set next ps new (λ q h. own q (inr h)) more next_whole (kept pushes set old p next _ whole next_whole (own p (inl refl)) is so)

  module _ (of_texts : OfTexts Q) (moved : Moved Q) (kept : IsKept) (behind : IsKeptBehind) where
    of_pushed : (before : List (FeatureSet × List SourceText)) (old new : Resolved) (files : List (List SourceText)) (id : ℕ) → AreTextsPushed eq old files new id → IsGraph old.graph → P before old.graph → IsGraph new.graph × P (before ++ with_each old.features files) new.graph
    of_pushed before old new files id h whole so =
        let t = h.pushed.pushed in
        let more = with_each old.features files in
        let each = behind_each Q of_texts moved old.features old.texts files h.groups h.are_groups in
        let all : Each (IsAmong Q (before ++ more) old.features) (packages_behind old.texts h.groups) = λ p has. (let e = each p has in (e.0, has_back before more (old.features, e.0) e.1, e.2)) in
        pushed_each kept (before ++ more) old.features old.graph t.sorted new.graph (λ p has. all p (sorted_has (packages_behind old.texts h.groups) t.order t.sorted p t.are_sorted has)) t.pushed whole (behind before more old.graph so)

    of_call : (before : List (FeatureSet × List SourceText)) (old new : Resolved) (call : IsCall eq old new) → IsGraph old.graph → P before old.graph → IsGraph new.graph × P (before ++ pushed_with eq old new call) new.graph
    of_call before old new (features set is) whole so = (let same : new.graph ≡ old.graph = ap (λ (r : Resolved). r.graph) is in (subst IsGraph (sym same) whole, subst (P (before ++ [])) (sym same) (behind before [] old.graph so)))
    of_call before old new (pushed files id is) whole so = of_pushed before old new files id is whole so
    of_call before old new (refused files is) whole so = (subst IsGraph (sym is.kept.graph) whole, subst (P (before ++ [])) (sym is.kept.graph) (behind before [] old.graph so))

    pub of_texts_all : P [] (record { tables = graph.nothing; names = [] }) → (r : Resolved) (come : ComeOfTexts eq r) → IsGraph r.graph × P (pushes_with eq r come) r.graph
    of_texts_all first r nothing = (nothing_is_graph graph.nothing [] refl refl, first)
    of_texts_all first r (after old new come call) =
        let was = of_texts_all first old come in
        of_call (pushes_with eq old come) old new call was.0 was.1
