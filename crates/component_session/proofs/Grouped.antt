-- Groups that were read from their texts.
use Rattle.std.proofs.Common.{◌≡◌, ◌∙◌, ℕ, zero, suc, Bool, List, [], ◌∷◌, ◌++◌, take, Result, Ok, Err, IfOk, IfErr, OnErr, refl, sym, subst, ap, inl, inr}
use Rattle.std.specs.List.{AllZip, flat_map}
use Rattle.wit_order.specs.Order.{Has}
use Rattle.text_graphs.specs.Passed.wit_resolution-Groups.{UnresolvedPackageGroup}
use Rattle.linked_components.specs.Passed.wit_graph_parts-Own.{IsWellFormed}
use Rattle.text_graphs.specs.Passed.wit_well_formed-Law.{ParsedPackagesAreWellFormed}
use Rattle.text_graphs.specs.Passed.wit_resolution-Groups.{packages_of, texts_of}
use Rattle.wit_types.specs.declared.«package».UnresolvedPackage.{UnresolvedPackage}
use Rattle.text_graphs.specs.Passed.wit_resolution-Pushes.{Resolved, AreGroupsPushed, IsGroupsError, AreGroupsRefused, AreTextsPushed, AreTextsError, AreTextsRefused, AreGroupTextsKept, AreTextsKept}
use Rattle.text_graphs.specs.Passed.wit_resolution-Texts.{IsGroupOf, AreTextsLeft}
use Rattle.text_graphs.specs.Passed.wit_resolve_errors-declared-error-ResolveErrorKind.{ResolveErrorKind}
use Rattle.wit_types.specs.declared.«package».PackageName.{PackageName}
use Rattle.wit_words.specs.Sources.{SourceText}
use Rattle.component_session.specs.Coming.{files_of_groups}

-- each was
abbrev pub AreRead : List UnresolvedPackageGroup → Type 0
AreRead gs = (g : UnresolvedPackageGroup) → Has gs g → IsGroupOf g.source_map g

pub are_groups : (gs : List UnresolvedPackageGroup) → AreRead gs → AllZip IsGroupOf (files_of_groups gs) gs
are_groups [] all = tt
are_groups (g ∷ gs) all = (all g (inl refl), are_groups gs (λ h i. all h (inr i)))

left_of : (k : ℕ) (gs : List UnresolvedPackageGroup) → texts_of (take k gs) ≡ flat_map (λ (ts : List SourceText). ts) (take k (files_of_groups gs))
left_of zero gs = refl
left_of (suc k) [] = refl
left_of (suc k) (g ∷ gs) = ap (λ (ts : List SourceText). g.source_map ++ ts) (left_of k gs)

all_of : (gs : List UnresolvedPackageGroup) → texts_of gs ≡ flat_map (λ (ts : List SourceText). ts) (files_of_groups gs)
all_of [] = refl
all_of (g ∷ gs) = ap (λ (ts : List SourceText). g.source_map ++ ts) (all_of gs)

kept_of : (old new : Resolved) (gs : List UnresolvedPackageGroup) (kind : ResolveErrorKind) → AreGroupTextsKept old gs kind new → AreTextsKept old (files_of_groups gs) kind new
kept_of old new gs kind (AreGroupTextsKept.no_place none) = AreTextsKept.no_place none
kept_of old new gs kind (AreGroupTextsKept.of_all fault is texts) = AreTextsKept.of_all fault is (texts ∙ ap (λ (ts : List SourceText). old.texts ++ ts) (all_of gs))

pub texts_kept : (old new : Resolved) (gs : List UnresolvedPackageGroup) (r : Result ℕ ResolveErrorKind) → IfErr r (λ kind. AreGroupTextsKept old gs kind new) → IfErr r (λ kind. AreTextsKept old (files_of_groups gs) kind new)
texts_kept old new gs (Ok id) h = h
texts_kept old new gs (Err kind) h = kept_of old new gs kind h

module _ (eq : PackageName → PackageName → Bool) (old new : Resolved) (gs : List UnresolvedPackageGroup) (all : AreRead gs) where
  pub pushed : (r : Result ℕ ResolveErrorKind) → IfOk r (AreGroupsPushed eq old gs new) → IfOk r (AreTextsPushed eq old (files_of_groups gs) new)
  pushed (Ok id) h = record { groups = gs; are_groups = are_groups gs all; pushed = h }
  pushed (Err e) h = h

  pub cause : (r : Result ℕ ResolveErrorKind) → IfErr r (IsGroupsError eq old gs) → IfErr r (AreTextsError eq old (files_of_groups gs))
  cause (Ok id) h = h
  cause (Err e) h = AreTextsError.refused gs (are_groups gs all) h

  pub refused : (r : Result ℕ ResolveErrorKind) → OnErr r (AreGroupsRefused eq old gs new) → OnErr r (AreTextsRefused eq old (files_of_groups gs) new)
  refused (Ok id) h = h
  refused (Err e) h = record { kept = h.kept; texts = AreTextsLeft.of_some h.texts.0 (h.texts.1 ∙ ap (λ (ts : List SourceText). old.texts ++ ts) (left_of h.texts.0 gs)) }

pub each_read : (g : UnresolvedPackageGroup) (gs : List UnresolvedPackageGroup) → IsGroupOf g.source_map g → AreRead gs → AreRead (g ∷ gs)
each_read g gs first others x (inl here) = subst (λ (y : UnresolvedPackageGroup). IsGroupOf y.source_map y) (sym here) first
each_read g gs first others x (inr later) = others x later

-- so its packages may be put into a graph
pub each_well_formed : ParsedPackagesAreWellFormed → (gs : List UnresolvedPackageGroup) → AreRead gs → (g : UnresolvedPackageGroup) → Has gs g → (p : UnresolvedPackage) → Has (packages_of g) p → IsWellFormed p
each_well_formed law gs all g has p own = law g.source_map g.main g.nested.items (all g has).parsed p own
