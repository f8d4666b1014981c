-- What is known of a file's names, with one more statement behind the others.
use Rattle.std.proofs.Common.{◌≡◌, ℕ, ◌+◌, ◌<◌, get_or, Bool, true, false, cond, List, [], ◌∷◌, ◌++◌, map, take, length, Option, Some, None, refl, sym, ap, ◌∙◌}
use Rattle.std.specs.Prelude.{bytes_eq, is_some, option_map}
use Rattle.std.proofs.lemmas.Slice.Eq.{bytes_eq-Decides}
use Rattle.wit_syntax.specs.Ast.{PackageNameTree, ToplevelUseTree, GatedTree, FileItemTree}
use Rattle.wit_scopes.specs.declared.paths.Target.{Target}
use Rattle.wit_scopes.specs.Paths.{TargetTree, by_itself, known_name, used_target, or_target, file_item_uses, item_uses}
use Rattle.wit_scopes.specs.View.{target}
use Rattle.wit_scopes.proofs.Lists.{flat_map-more}

step : (me : PackageNameTree) (u : ToplevelUseTree) (n : List ℕ) (x : Target) (b : Bool) (o : Option Target) → b ≡ bytes_eq (known_name u).text n → (b ≡ true → is_some o ≡ false)
    → target x ≡ by_itself me u.item → option_map target (cond b (Some x) o) ≡ or_target (option_map target o) (used_target me (u ∷ []) n)
step me u n x true None e absent same = rw (← e) (ap Some same)
step me u n x true (Some y) e absent same = absurd (cc (absent refl))
step me u n x false None e absent same = rw (← e) refl
step me u n x false (Some y) e absent same = refl

-- where nothing is known under the name of a statement
pub known_more : (old new : List ℕ → Option Target) (me : PackageNameTree) (u : ToplevelUseTree) (k : List ℕ) (x : Target) → k ≡ (known_name u).text → is_some (old k) ≡ false
    → target x ≡ by_itself me u.item → ((n : List ℕ) → new n ≡ cond (bytes_eq k n) (Some x) (old n)) → (n : List ℕ) → option_map target (new n) ≡ or_target (option_map target (old n)) (used_target me (u ∷ []) n)
known_more old new me u k x key absent same inserted n =
    rw (inserted n) (step me u n x (bytes_eq k n) (old n) (ap (λ j. bytes_eq j n) key) (λ h. ap (λ j. is_some (old j)) (sym ((bytes_eq-Decides k n).0 h)) ∙ absent) same)

one_first : (b : Bool) (x : TargetTree) (o p : Option TargetTree) → cond b (Some x) (or_target o p) ≡ or_target (cond b (Some x) o) p
one_first true x o p = refl
one_first false x o p = refl

-- statements behind others
pub used_target-append : (me : PackageNameTree) (us vs : List ToplevelUseTree) (n : List ℕ) → used_target me (us ++ vs) n ≡ or_target (used_target me us n) (used_target me vs n)
used_target-append me [] vs n = refl
used_target-append me (u ∷ us) vs n = rw (used_target-append me us vs n) (one_first (bytes_eq (known_name u).text n) (by_itself me u.item) (used_target me us n) (used_target me vs n))

-- what one more item makes known
pub uses_more : {X : Type 0} (me : PackageNameTree) (view : X → GatedTree FileItemTree) (xs : List X) (i : ℕ) (x : X) → i < length xs → x ≡ get_or xs i x → (n : List ℕ)
    → used_target me (item_uses (map view (take (i + 1) xs))) n ≡ or_target (used_target me (item_uses (map view (take i xs))) n) (used_target me (file_item_uses (view x).item) n)
uses_more me view xs i x within is n =
    rw (flat_map-more (λ g. file_item_uses g.item) view xs i x within is) (used_target-append me (item_uses (map view (take i xs))) (file_item_uses (view x).item) n)
