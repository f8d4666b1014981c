-- Packages and groups that are pushed have no cause to be refused.
use Rattle.std.proofs.Common.{ℕ, List, [], ◌∷◌, ◌++◌, inl, inr, All, Any, ap, subst, ◌∙◌, arith}
use Rattle.wit_words.specs.declared.source_map.Span.{Span}
use Rattle.wit_words.specs.Sources.{SourceText, total}
use Rattle.wit_types.specs.declared.«package».UnresolvedPackage.{UnresolvedPackage}
use Rattle.wit_push_causes.specs.Passed.wit_package-declared-group-UnresolvedPackageGroup.{UnresolvedPackageGroup}
use Rattle.wit_offsets.specs.Offsets.{SpanFits, Fits, Passes, package_spans, package_at}
use Rattle.wit_resolution.specs.Passed.wit_resolve_errors-Errors.{of_push, of_group}
use Rattle.wit_push_causes.proofs.Asking.{moved_for_one}
use Rattle.wit_push_causes.proofs.Together.{none_here, none_together}
use Rattle.wit_resolution.specs.Groups.{packages_behind, Pass, Fit, AllFit, SomePass}
use Rattle.wit_resolution.specs.Pushes.{IsPackageError, IsGroupsError}
use Rattle.text_causes.specs.Causes.{PushedPackagesHaveNoCause, PushedGroupsHaveNoCause}

-- ---- places

none_lies_behind : (n : ℕ) (spans : List Span) → All (SpanFits n) spans → Any (λ s. SpanFits n s → ⊥) spans → ⊥
none_lies_behind n spans fit (k, s, within, is, none) = none (subst (SpanFits n) is (fit k s within))

fits_or_passes : (n : ℕ) (p : UnresolvedPackage) → Fits n p → Passes n p → ⊥
fits_or_passes n p = none_lies_behind n (package_spans p)

group_fits : (texts : List SourceText) (g : UnresolvedPackageGroup) → Fit texts g → Pass texts g → ⊥
group_fits texts g fit (inl large) = absurd (omega (arith, large, fit.bytes))
group_fits texts g fit (inr (p, has, passes)) = fits_or_passes (total texts) p (fit.places p has) passes

all_fit : (texts : List SourceText) (gs : List UnresolvedPackageGroup) → AllFit texts gs → SomePass texts gs → ⊥
all_fit texts [] fit pass = absurd pass
all_fit texts (g ∷ gs) fit (inl here) = group_fits texts g fit.0 here
all_fit texts (g ∷ gs) fit (inr later) = all_fit (texts ++ g.source_map) gs fit.1 later

-- ---- a package, and groups

pub package_pushed : PushedPackagesHaveNoCause
package_pushed eq old offset p new id kind one h (IsPackageError.too_large passes is) = absurd (fits_or_passes offset p h.fits passes)
package_pushed eq old offset p new id kind one h (IsPackageError.refused fault cause is) =
    is ∙ ap of_push (none_here eq old.features old.graph (package_at offset p) new.graph id fault (moved_for_one p offset one) h.pushed cause)

pub groups_pushed : PushedGroupsHaveNoCause
groups_pushed eq old gs new id kind one h (IsGroupsError.no_memory is) = is
groups_pushed eq old gs new id kind one h (IsGroupsError.too_large pass is) = absurd (all_fit old.texts gs h.fit pass)
groups_pushed eq old gs new id kind one h (IsGroupsError.refused fault cause is) =
    is ∙ ap of_group (none_together eq old.features old.graph (packages_behind old.texts gs) new.graph id fault one h.pushed cause)
