-- Packages that are resolved come of texts alone (WIT, Packages).
use Rattle.std.specs.Prelude.{◌≡◌, ◌++◌, [], ℕ, Bool, List, map}
use Rattle.wit_features.specs.Features.{FeatureSet}
use Rattle.wit_resolution.specs.Pushes.{Resolved, nothing_resolved, AreTextsPushed, AreTextsRefused}
use Rattle.wit_types.specs.declared.«package».PackageName.{PackageName}
use Rattle.wit_words.specs.Sources.{SourceText}

module _ (eq : PackageName → PackageName → Bool) where
  -- one call: other features are active from then on, texts of packages are pushed, or are refused
  pub data IsCall (old new : Resolved) : Type 0 where
    features : (set : FeatureSet) → new ≡ record old { features = set } → IsCall old new
    pushed : (files : List (List SourceText)) (id : ℕ) → AreTextsPushed eq old files new id → IsCall old new
    refused : (files : List (List SourceText)) → AreTextsRefused eq old files new → IsCall old new

  -- nothing is there at first, and then comes call after call
  pub data ComeOfTexts : Resolved → Type 0 where
    nothing : ComeOfTexts nothing_resolved
    after : (old new : Resolved) → ComeOfTexts old → IsCall old new → ComeOfTexts new

  -- the texts that calls pushed, those of each package together, with the features that were active then
  abbrev pub pushed_with : (old new : Resolved) → IsCall old new → List (FeatureSet × List SourceText)
  pushed_with old new (features set is) = []
  pushed_with old new (pushed files id is) = map (λ (source : List SourceText). (old.features, source)) files
  pushed_with old new (refused files is) = []

  abbrev pub pushes_with : (r : Resolved) → ComeOfTexts r → List (FeatureSet × List SourceText)
  pushes_with _ nothing = []
  pushes_with _ (after old new come call) = pushes_with old come ++ pushed_with old new call
