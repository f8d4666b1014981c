-- Groups of packages that come behind others, one after the other: what is so of those still to come is so of all.
use Rattle.std.proofs.Common.{◌≡◌, ℕ, suc, ◌⊎◌, inl, inr, List, [], ◌∷◌, ◌++◌, refl, sym, subst, ap, ◌∙◌, map, take, append_assoc}
use Rattle.std.proofs.lemmas.List.{append-nil}
use Rattle.std.proofs.lemmas.List.Concat.{flat_map-cons}
use Rattle.wit_words.specs.Sources.{SourceText, total}
use Rattle.wit_order.specs.Order.{Has}
use Rattle.wit_types.specs.declared.«package».UnresolvedPackage.{UnresolvedPackage}
use Rattle.wit_well_formed.specs.Passed.wit_package-declared-group-UnresolvedPackageGroup.{UnresolvedPackageGroup}
use Rattle.wit_offsets.specs.Offsets.{package_at, Fits, Passes}
use Rattle.wit_resolve_errors.specs.Errors.{IsSizeError}
use Rattle.wit_resolve_errors.specs.declared.error.ResolveErrorKind.{ResolveErrorKind}
use Rattle.wit_resolution.specs.Groups.{packages_of, packages_behind, texts_of, Fit, Pass, AllFit, SomePass, BeginBehind}

-- ---- packages whose texts begin there

abbrev pub AllFitAt : ℕ → List UnresolvedPackage → Type 0
AllFitAt n ps = (p : UnresolvedPackage) → Has ps p → Fits n p

abbrev pub OnePassesAt : ℕ → List UnresolvedPackage → Type 0
OnePassesAt n ps = (p : UnresolvedPackage) × Has ps p × Passes n p

-- these are added with those still to come to what was there, which is all
pub record Adding (n : ℕ) (old own now rest : List UnresolvedPackage) : Type 0 where
  pub added : now ++ map (package_at n) rest ≡ old ++ map (package_at n) own
  pub fit : AllFitAt n rest → AllFitAt n own
  pub pass : OnePassesAt n rest → OnePassesAt n own

pub none_added : (n : ℕ) (old own rest : List UnresolvedPackage) → rest ≡ own → Adding n old own old rest
none_added n old own rest same = subst (λ (ps : List UnresolvedPackage). Adding n old own old ps) (sym same) (record { added = refl; fit = λ h. h; pass = λ h. h })

one_fits : (n : ℕ) (p : UnresolvedPackage) (rest : List UnresolvedPackage) → Fits n p → AllFitAt n rest → AllFitAt n (p ∷ rest)
one_fits n p rest here later q has = elim has as (λ _. Fits n q) [
  | inl same ↦ subst (λ (x : UnresolvedPackage). Fits n x) (sym same) here
  | inr h ↦ later q h
]

pub one_added : (n : ℕ) (old own now new left rest : List UnresolvedPackage) (p : UnresolvedPackage) → Adding n old own now left → left ≡ p ∷ rest → new ≡ now ++ package_at n p ∷ [] → Fits n p → Adding n old own new rest
one_added n old own now new left rest p so step is fits =
    let here : Adding n old own now (p ∷ rest) = subst (λ (ps : List UnresolvedPackage). Adding n old own now ps) step so in
    record {
      added = ap (λ (ps : List UnresolvedPackage). ps ++ map (package_at n) rest) is ∙ append_assoc now (package_at n p ∷ []) (map (package_at n) rest) ∙ here.added;
      fit = λ h. here.fit (one_fits n p rest fits h);
      pass = λ h. here.pass (h.0, inr h.1, h.2);
    }

pub first_passes : (n : ℕ) (left rest : List UnresolvedPackage) (p : UnresolvedPackage) → left ≡ p ∷ rest → Passes n p → OnePassesAt n left
first_passes n left rest p step passes = subst (λ (ps : List UnresolvedPackage). OnePassesAt n ps) (sym step) (p, inl refl, passes)

pub all_added : (n : ℕ) (old own now left : List UnresolvedPackage) → Adding n old own now left → left ≡ [] → (now ≡ old ++ map (package_at n) own) × AllFitAt n own
all_added n old own now left so none =
    let here : Adding n old own now [] = subst (λ (ps : List UnresolvedPackage). Adding n old own now ps) none so in
    (sym (append-nil now) ∙ here.added, here.fit (λ p h. absurd h))

-- ---- groups

pub record Taking (before : List SourceText) (old : List UnresolvedPackage) (gs : List UnresolvedPackageGroup) (texts : List SourceText) (now : List UnresolvedPackage) (rest : List UnresolvedPackageGroup) : Type 0 where
  pub added : now ++ packages_behind texts rest ≡ old ++ packages_behind before gs
  pub all_texts : texts ++ texts_of rest ≡ before ++ texts_of gs
  pub fit : AllFit texts rest → AllFit before gs
  pub pass : SomePass texts rest → SomePass before gs
  pub begin : (new : List SourceText) → BeginBehind texts rest new → BeginBehind before gs new

pub none_taken : (before : List SourceText) (old : List UnresolvedPackage) (gs rest : List UnresolvedPackageGroup) → rest ≡ gs → Taking before old gs before old rest
none_taken before old gs rest same =
    subst (λ (xs : List UnresolvedPackageGroup). Taking before old gs before old xs) (sym same) (record { added = refl; all_texts = refl; fit = λ h. h; pass = λ h. h; begin = λ new h. h })

-- the texts of one more
texts_more : (texts : List SourceText) (g : UnresolvedPackageGroup) (rest : List UnresolvedPackageGroup) → (texts ++ g.source_map) ++ texts_of rest ≡ texts ++ texts_of (g ∷ rest)
texts_more texts g rest = append_assoc texts g.source_map (texts_of rest) ∙ ap (λ (ts : List SourceText). texts ++ ts) (sym (flat_map-cons (λ (x : UnresolvedPackageGroup). x.source_map) g rest))

begin_more : (texts : List SourceText) (g : UnresolvedPackageGroup) (rest : List UnresolvedPackageGroup) (new : List SourceText) → BeginBehind (texts ++ g.source_map) rest new → BeginBehind texts (g ∷ rest) new
begin_more texts g rest new (k, is) = (suc k, is ∙ texts_more texts g (take k rest))

pub one_taken : (before : List SourceText) (old : List UnresolvedPackage) (gs : List UnresolvedPackageGroup) (texts more : List SourceText) (now new : List UnresolvedPackage) (left rest : List UnresolvedPackageGroup) (g : UnresolvedPackageGroup)
    → Taking before old gs texts now left → left ≡ g ∷ rest → more ≡ texts ++ g.source_map → new ≡ now ++ map (package_at (total texts)) (packages_of g) → Fit texts g → Taking before old gs more new rest
one_taken before old gs texts more now new left rest g so step more_is new_is fits =
    let here : Taking before old gs texts now (g ∷ rest) = subst (λ (xs : List UnresolvedPackageGroup). Taking before old gs texts now xs) step so in
    let own : List UnresolvedPackage = map (package_at (total texts)) (packages_of g) in
    subst (λ (ts : List SourceText). Taking before old gs ts new rest) (sym more_is)
    (record {
      added = ap (λ (ps : List UnresolvedPackage). ps ++ packages_behind (texts ++ g.source_map) rest) new_is ∙ append_assoc now own (packages_behind (texts ++ g.source_map) rest) ∙ here.added;
      all_texts = texts_more texts g rest ∙ here.all_texts;
      fit = λ h. here.fit (fits, h);
      pass = λ h. here.pass (inr h);
      begin = λ ts h. here.begin ts (begin_more texts g rest ts h);
    })

pub first_refused : (before : List SourceText) (old : List UnresolvedPackage) (gs : List UnresolvedPackageGroup) (texts new : List SourceText) (now : List UnresolvedPackage) (left rest : List UnresolvedPackageGroup) (g : UnresolvedPackageGroup)
    → Taking before old gs texts now left → left ≡ g ∷ rest → (new ≡ texts) ⊎ (new ≡ texts ++ g.source_map) → BeginBehind before gs new
first_refused before old gs texts new now left rest g so step kept =
    let here : Taking before old gs texts now (g ∷ rest) = subst (λ (xs : List UnresolvedPackageGroup). Taking before old gs texts now xs) step so in
    elim kept as (λ _. BeginBehind before gs new) [
      | inl same ↦ here.begin new (0, same ∙ sym (append-nil texts))
      | inr more ↦ here.begin new (begin_more texts g rest new (0, more ∙ sym (append-nil (texts ++ g.source_map))))
    ]

pub first_passes_of : (before : List SourceText) (old : List UnresolvedPackage) (gs : List UnresolvedPackageGroup) (texts : List SourceText) (now : List UnresolvedPackage) (left rest : List UnresolvedPackageGroup) (g : UnresolvedPackageGroup)
    → Taking before old gs texts now left → left ≡ g ∷ rest → Pass texts g → SomePass before gs
first_passes_of before old gs texts now left rest g so step passes =
    let here : Taking before old gs texts now (g ∷ rest) = subst (λ (xs : List UnresolvedPackageGroup). Taking before old gs texts now xs) step so in
    here.pass (inl passes)

pub record Taken (before : List SourceText) (old : List UnresolvedPackage) (gs : List UnresolvedPackageGroup) (texts : List SourceText) (now : List UnresolvedPackage) : Type 0 where
  pub added : now ≡ old ++ packages_behind before gs
  pub all_texts : texts ≡ before ++ texts_of gs
  pub fit : AllFit before gs

pub all_taken : (before : List SourceText) (old : List UnresolvedPackage) (gs : List UnresolvedPackageGroup) (texts : List SourceText) (now : List UnresolvedPackage) (left : List UnresolvedPackageGroup)
    → Taking before old gs texts now left → left ≡ [] → Taken before old gs texts now
all_taken before old gs texts now left so none =
    let here : Taking before old gs texts now [] = subst (λ (xs : List UnresolvedPackageGroup). Taking before old gs texts now xs) none so in
    record { added = sym (append-nil now) ∙ here.added; all_texts = sym (append-nil texts) ∙ here.all_texts; fit = here.fit tt }

-- ---- what is too large

pub size_weaker : (P Q : Type 0) → (P → Q) → (kind : ResolveErrorKind) → IsSizeError P kind → IsSizeError Q kind
size_weaker P Q f kind (inl memory) = inl memory
size_weaker P Q f kind (inr large) = inr (f large.0, large.1)
