-- Why calls refuse.
use Rattle.std.proofs.Common.{◌≡◌, ℕ, zero, suc, ◌+◌, ◌^◌, ◌≤◌, ◌⊎◌, Bool, List, [], ◌∷◌, ◌++◌, take, inl, inr, refl, sym, subst, ap, ◌∙◌}
use Rattle.std.proofs.lemmas.List.{append-nil}
use Rattle.std.specs.List.{AllZip, flat_map}
use Rattle.std.specs.Prelude.{Result, Ok, Err, OnErr}
use Rattle.wit_words.specs.Sources.{SourceText, total}
use Rattle.wit_order.specs.Order.{Has}
use Rattle.wit_types.specs.declared.«package».PackageName.{PackageName}
use Rattle.wit_types.specs.declared.«package».UnresolvedPackage.{UnresolvedPackage}
use Rattle.wit_rules.specs.declared.fault.PackageFault.{PackageFault}
use Rattle.wit_well_formed.specs.Passed.wit_package-declared-group-UnresolvedPackageGroup.{UnresolvedPackageGroup}
use Rattle.wit_resolve_errors.specs.Passed.wit_groups-Pushed.{IsTogetherCause}
use Rattle.wit_resolve_errors.specs.Passed.wit_groups-declared-fault-GroupFault.{GroupFault}
use Rattle.wit_resolve_errors.specs.Errors.{IsOfTexts, IsSizeError, of_group}
use Rattle.wit_resolution.specs.Groups.{packages_behind, texts_of}
use Rattle.wit_resolution.specs.Pushes.{Resolved, IsGroupsError, AreGroupsRefused, AreTextsError, AreTextsRefused, HasNoPlace, AreGroupTextsKept, AreTextsKept}
use Rattle.wit_resolution.specs.Texts.{AreTextsLeft, IsGroupOf, IsUnread}
use Rattle.wit_resolve_errors.specs.declared.error.ResolveErrorKind.{ResolveErrorKind}

module _ (eq : PackageName → PackageName → Bool) (old : Resolved) where
  pub together_error : (gs : List UnresolvedPackageGroup) (ps : List UnresolvedPackage) (kind : ResolveErrorKind) → ps ≡ packages_behind old.texts gs
      → ((fault : GroupFault) × IsTogetherCause eq old.features old.graph ps fault × (kind ≡ of_group fault)) → IsGroupsError eq old gs kind
  together_error gs ps kind same (fault, cause, is) =
      IsGroupsError.refused fault (subst (λ (qs : List UnresolvedPackage). IsTogetherCause eq old.features old.graph qs fault) same cause) is

  -- what a refusal of texts says of itself and of the texts
  abbrev pub IsRefusal : (read : List SourceText) (fault : PackageFault) (kind : ResolveErrorKind) (new : Resolved) → Type 0
  IsRefusal read fault kind new = (IsOfTexts (total old.texts) fault kind × (new ≡ record old { texts = old.texts ++ read })) ⊎ (IsSizeError (2 ^ 32 ≤ total old.texts + total read) kind × (new ≡ old))

  pub texts_error : (files : List (List SourceText)) (fs read : List SourceText) (fault : PackageFault) (kind : ResolveErrorKind) (new : Resolved) → Has files fs → IsUnread fs read fault → IsRefusal read fault kind new → AreTextsError eq old files kind
  texts_error files fs read fault kind new has unread (inl (of_texts, more)) = AreTextsError.unread fs fault has unread.cause of_texts
  texts_error files fs read fault kind new has unread (inr (inl memory, same)) = AreTextsError.no_memory memory
  texts_error files fs read fault kind new has unread (inr (inr large, same)) = AreTextsError.too_large fs read has unread.beginning large.0 large.1

  pub of_size : (Large : Type 0) (kind : ResolveErrorKind) → IsSizeError Large kind → HasNoPlace kind
  of_size Large kind (inl memory) = inl memory
  of_size Large kind (inr large) = inr large.1

  pub texts_kept : (files : List (List SourceText)) (fs read : List SourceText) (fault : PackageFault) (kind : ResolveErrorKind) (new : Resolved) → Has files fs → IsUnread fs read fault → IsRefusal read fault kind new → AreTextsKept old files kind new
  texts_kept files fs read fault kind new has unread (inl (of_texts, more)) = AreTextsKept.as_read fs read fault has unread of_texts (ap (λ (r : Resolved). r.texts) more)
  texts_kept files fs read fault kind new has unread (inr (size, same)) = AreTextsKept.no_place (of_size (2 ^ 32 ≤ total old.texts + total read) kind size)

  -- when packages behind all texts of groups are refused
  pub groups_kept : (gs : List UnresolvedPackageGroup) (ps : List UnresolvedPackage) (kind : ResolveErrorKind) (new : Resolved) → new.texts ≡ old.texts ++ texts_of gs
      → ((fault : GroupFault) × IsTogetherCause eq old.features old.graph ps fault × (kind ≡ of_group fault)) → AreGroupTextsKept old gs kind new
  groups_kept gs ps kind new texts (fault, cause, is) = AreGroupTextsKept.of_all fault is texts

-- ---- what stays of texts

-- the texts of the first groups are those of the first packages
texts_alike : (files : List (List SourceText)) (gs : List UnresolvedPackageGroup) (k : ℕ) → AllZip IsGroupOf files gs → texts_of (take k gs) ≡ flat_map (λ (ts : List SourceText). ts) (take k files)
texts_alike files gs zero zip = refl
texts_alike [] [] (suc k) zip = refl
texts_alike [] (g ∷ gs) (suc k) zip = absurd zip
texts_alike (f ∷ fs) [] (suc k) zip = absurd zip
texts_alike (f ∷ fs) (g ∷ gs) (suc k) zip = ap (λ (ts : List SourceText). ts ++ texts_of (take k gs)) zip.0.texts ∙ ap (λ (ts : List SourceText). f ++ ts) (texts_alike fs gs k zip.1)

all_alike : (files : List (List SourceText)) (gs : List UnresolvedPackageGroup) → AllZip IsGroupOf files gs → texts_of gs ≡ flat_map (λ (ts : List SourceText). ts) files
all_alike [] [] zip = refl
all_alike [] (g ∷ gs) zip = absurd zip
all_alike (f ∷ fs) [] zip = absurd zip
all_alike (f ∷ fs) (g ∷ gs) zip = ap (λ (ts : List SourceText). ts ++ texts_of gs) zip.0.texts ∙ ap (λ (ts : List SourceText). f ++ ts) (all_alike fs gs zip.1)

pub all_kept : (old : Resolved) (files : List (List SourceText)) (gs : List UnresolvedPackageGroup) (kind : ResolveErrorKind) (new : Resolved) → AllZip IsGroupOf files gs → AreGroupTextsKept old gs kind new → AreTextsKept old files kind new
all_kept old files gs kind new zip (AreGroupTextsKept.no_place none) = AreTextsKept.no_place none
all_kept old files gs kind new zip (AreGroupTextsKept.of_all fault is texts) = AreTextsKept.of_all fault is (texts ∙ ap (λ (ts : List SourceText). old.texts ++ ts) (all_alike files gs zip))

pub groups_left : (eq : PackageName → PackageName → Bool) (old new : Resolved) (files : List (List SourceText)) (gs : List UnresolvedPackageGroup) → AllZip IsGroupOf files gs → AreGroupsRefused eq old gs new → AreTextsRefused eq old files new
groups_left eq old new files gs zip h = record {
  kept = h.kept;
  texts = AreTextsLeft.of_some h.texts.0 (h.texts.1 ∙ ap (λ (ts : List SourceText). old.texts ++ ts) (texts_alike files gs h.texts.0 zip));
}

pub texts_left : (eq : PackageName → PackageName → Bool) (old new : Resolved) (files : List (List SourceText)) (fs read : List SourceText) (fault : PackageFault) (kind : ResolveErrorKind) → Has files fs → IsUnread fs read fault → IsRefusal eq old read fault kind new
    → AreTextsRefused eq old files new
texts_left eq old new files fs read fault kind has unread (inr (size, same)) = record {
  kept = record { features = ap (λ (r : Resolved). r.features) same; graph = ap (λ (r : Resolved). r.graph) same };
  texts = AreTextsLeft.of_some 0 (ap (λ (r : Resolved). r.texts) same ∙ sym (append-nil old.texts));
}
texts_left eq old new files fs read fault kind has unread (inl (of_texts, more)) = record {
  kept = record { features = ap (λ (r : Resolved). r.features) more; graph = ap (λ (r : Resolved). r.graph) more };
  texts = AreTextsLeft.of_one fs read has unread.beginning (ap (λ (r : Resolved). r.texts) more);
}

pub on_err_weaker : {T E : Type 0} (r : Result T E) (P Q : Type 0) → (P → Q) → OnErr r P → OnErr r Q
on_err_weaker (Ok x) P Q f h = tt
on_err_weaker (Err e) P Q f h = f h
