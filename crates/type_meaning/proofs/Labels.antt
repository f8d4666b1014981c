-- Equality of labels and of resources is decided.
use Rattle.std.proofs.Common.{◌≡◌, true, refl, sym, ap, ◌∙◌}
use Rattle.std.specs.Prelude.{bytes_eq}
use Rattle.std.specs.Bool.{Decides}
use Rattle.std.proofs.lemmas.Bool.{and_parts, and_from}
use Rattle.std.proofs.lemmas.Bool.Decides.{Decides-eqb}
use Rattle.std.proofs.lemmas.Slice.Eq.{bytes_eq-Decides}
use Rattle.type_meaning.specs.Words.{Site, root_import, root_export, itself, imported, exported, Label, Resource, defined_at, imported_as, its_own, same_site, same_label, same_resource}

site_says : (a b : Site) → same_site a b ≡ true → a ≡ b
site_says root_import root_import h = refl
site_says root_export root_export h = refl
site_says itself itself h = refl
site_says (imported n) (imported m) h = ap imported ((bytes_eq-Decides n m).0 h)
site_says (exported n) (exported m) h = ap exported ((bytes_eq-Decides n m).0 h)
site_says root_import root_export h = absurd cc
site_says root_import itself h = absurd cc
site_says root_import (imported m) h = absurd cc
site_says root_import (exported m) h = absurd cc
site_says root_export root_import h = absurd cc
site_says root_export itself h = absurd cc
site_says root_export (imported m) h = absurd cc
site_says root_export (exported m) h = absurd cc
site_says itself root_import h = absurd cc
site_says itself root_export h = absurd cc
site_says itself (imported m) h = absurd cc
site_says itself (exported m) h = absurd cc
site_says (imported n) root_import h = absurd cc
site_says (imported n) root_export h = absurd cc
site_says (imported n) itself h = absurd cc
site_says (imported n) (exported m) h = absurd cc
site_says (exported n) root_import h = absurd cc
site_says (exported n) root_export h = absurd cc
site_says (exported n) itself h = absurd cc
site_says (exported n) (imported m) h = absurd cc

site_same : (a : Site) → same_site a a ≡ true
site_same root_import = refl
site_same root_export = refl
site_same itself = refl
site_same (imported n) = (bytes_eq-Decides n n).1 refl
site_same (exported n) = (bytes_eq-Decides n n).1 refl

pub site_decides : (a b : Site) → Decides (same_site a b) (a ≡ b)
site_decides a b = (site_says a b, λ e. ap (same_site a) (sym e) ∙ site_same a)

pub label_decides : (a b : Label) → Decides (same_label a b) (a ≡ b)
label_decides a b = (
  λ h.
      let p = and_parts (same_site a.site b.site) (bytes_eq a.name b.name) h in
      let s = site_says a.site b.site p.0 in
      let n = (bytes_eq-Decides a.name b.name).0 p.1 in
      λ i. record { site = s i; name = n i },
  λ e. and_from (same_site a.site b.site) (bytes_eq a.name b.name) ((site_decides a.site b.site).1 (ap (λ (l : Label). l.site) e)) ((bytes_eq-Decides a.name b.name).1 (ap (λ (l : Label). l.name) e)),
)

resource_says : (a b : Resource) → same_resource a b ≡ true → a ≡ b
resource_says (defined_at i) (defined_at j) h = ap defined_at ((Decides-eqb i j).0 h)
resource_says (imported_as l) (imported_as m) h = ap imported_as ((label_decides l m).0 h)
resource_says (its_own n) (its_own m) h = ap its_own ((bytes_eq-Decides n m).0 h)
resource_says (defined_at i) (imported_as m) h = absurd cc
resource_says (defined_at i) (its_own m) h = absurd cc
resource_says (imported_as l) (defined_at j) h = absurd cc
resource_says (imported_as l) (its_own m) h = absurd cc
resource_says (its_own n) (defined_at j) h = absurd cc
resource_says (its_own n) (imported_as m) h = absurd cc

resource_same : (a : Resource) → same_resource a a ≡ true
resource_same (defined_at i) = (Decides-eqb i i).1 refl
resource_same (imported_as l) = (label_decides l l).1 refl
resource_same (its_own n) = (bytes_eq-Decides n n).1 refl

pub resource_decides : (a b : Resource) → Decides (same_resource a b) (a ≡ b)
resource_decides a b = (resource_says a b, λ e. ap (same_resource a) (sym e) ∙ resource_same a)
