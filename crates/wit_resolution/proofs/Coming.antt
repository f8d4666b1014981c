-- Texts of packages, of which some are still to come.
use Rattle.std.proofs.Common.{◌≡◌, ℕ, ◌+◌, ◌<◌, zero, suc, inl, inr, List, [], ◌∷◌, ◌++◌, length, map, drop, get_or, refl, sym, subst, ap, ◌∙◌, arith, append_assoc}
use Rattle.std.proofs.lemmas.List.{append-nil, drop_more}
use Rattle.std.specs.Borrow.{Bor}
use Rattle.std.specs.List.{AllZip}
use Rattle.wit_words.specs.Sources.{SourceText}
use Rattle.wit_order.specs.Order.{Has}
use Rattle.wit_types.specs.declared.«package».UnresolvedPackage.{UnresolvedPackage}
use Rattle.wit_well_formed.specs.Passed.wit_graph_parts-Own.{IsWellFormed}
use Rattle.wit_well_formed.specs.Passed.wit_package-GroupView.{text, texts}
use Rattle.wit_well_formed.specs.Passed.wit_package-declared-group-UnresolvedPackageGroup.{UnresolvedPackageGroup}
use Rattle.wit_well_formed.specs.Law.{ParsedPackagesAreWellFormed}
use Rattle.wit_resolution.specs.Groups.{packages_of}
use Rattle.wit_resolution.specs.Texts.{files_of, IsGroupOf}

abbrev pub Written : Type 0
Written = Bor (List ℕ) × Bor (List ℕ)

-- each a package by itself
abbrev pub alone : List Written → List (List SourceText)
alone ts = map (λ (t : SourceText). t ∷ []) (texts ts)

-- with the groups of the texts still to come these are the groups of all
abbrev pub Coming : List SourceText → List Written → List Written → List UnresolvedPackageGroup → Type 0
Coming main deps rest groups = (more : List UnresolvedPackageGroup) → AllZip IsGroupOf (alone rest) more → AllZip IsGroupOf (files_of main (texts deps)) (groups ++ more)

pub all_coming : (main : List SourceText) (deps : List Written) (groups : List UnresolvedPackageGroup) (g : UnresolvedPackageGroup) → IsGroupOf main g → groups ≡ [] ++ g ∷ [] → Coming main deps deps groups
all_coming main deps groups g is groups_are more zip = subst (λ (gs : List UnresolvedPackageGroup). AllZip IsGroupOf (files_of main (texts deps)) (gs ++ more)) (sym groups_are) (is, zip)

pub one_came : (main : List SourceText) (deps : List Written) (i : ℕ) (d : Written) (old new : List UnresolvedPackageGroup) (g : UnresolvedPackageGroup)
    → Coming main deps (drop i deps) old → i < length deps → IsGroupOf (text (get_or deps i d) ∷ []) g → new ≡ old ++ g ∷ [] → Coming main deps (drop (i + 1) deps) new
one_came main deps i d old new g so within is new_is more zip =
    let all : AllZip IsGroupOf (alone (drop i deps)) (g ∷ more) = subst (λ (ts : List Written). AllZip IsGroupOf (alone ts) (g ∷ more)) (sym (drop_more deps i d within)) (is, zip) in
    subst (λ (gs : List UnresolvedPackageGroup). AllZip IsGroupOf (files_of main (texts deps)) gs) (sym (append_assoc old (g ∷ []) more) ∙ ap (λ (gs : List UnresolvedPackageGroup). gs ++ more) (sym new_is)) (so (g ∷ more) all)

pub all_came : (main : List SourceText) (deps rest : List Written) (groups : List UnresolvedPackageGroup) → Coming main deps rest groups → rest ≡ [] → AllZip IsGroupOf (files_of main (texts deps)) groups
all_came main deps rest groups so none =
    let none_left : AllZip IsGroupOf (alone rest) [] = subst (λ (ts : List Written). AllZip IsGroupOf (alone ts) []) (sym none) tt in
    subst (λ (gs : List UnresolvedPackageGroup). AllZip IsGroupOf (files_of main (texts deps)) gs) (append-nil groups) (so [] none_left)

pub has_alone : (deps : List Written) (i : ℕ) (d : Written) → i < length deps → Has (alone deps) (text (get_or deps i d) ∷ [])
has_alone [] i d within = absurd (omega arith)
has_alone (t ∷ ts) zero d within = inl refl
has_alone (t ∷ ts) (suc i) d within = inr (has_alone ts i d (omega arith))

-- ---- packages of texts

pub each_well_formed : ParsedPackagesAreWellFormed → (files : List (List SourceText)) (gs : List UnresolvedPackageGroup) → AllZip IsGroupOf files gs
    → (g : UnresolvedPackageGroup) → Has gs g → (p : UnresolvedPackage) → Has (packages_of g) p → IsWellFormed p
each_well_formed law [] [] zip g has p own = absurd has
each_well_formed law [] (x ∷ xs) zip g has p own = absurd zip
each_well_formed law (f ∷ fs) [] zip g has p own = absurd zip
each_well_formed law (f ∷ fs) (x ∷ xs) zip g has p own = elim has as (λ _. IsWellFormed p) [
  | inl here ↦ law f x.main x.nested.items zip.0.parsed p (subst (λ (y : UnresolvedPackageGroup). Has (packages_of y) p) here own)
  | inr later ↦ each_well_formed law fs xs zip.1 g later p own
]

pub some_groups : (main : List SourceText) (deps : List SourceText) (gs : List UnresolvedPackageGroup) → AllZip IsGroupOf (files_of main deps) gs → 0 < length gs
some_groups main deps [] zip = absurd zip
some_groups main deps (g ∷ gs) zip = omega arith
