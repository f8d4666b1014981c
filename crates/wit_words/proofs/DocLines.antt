-- Lines of docs.
use Rattle.std.proofs.Common.{◌≡◌, ℕ, ◌+◌, ◌-◌, ◌<◌, ◌≤◌, ◌==◌, true, false, List, [], ◌∷◌, ◌++◌, map, length, take, get_or, refl, sym, ap, ◌∙◌, arith, flat_map}
use Rattle.std.specs.List.{join_by}
use Rattle.std.proofs.lemmas.List.{map_more}
use Rattle.std.proofs.lemmas.Bool.Decides.{nat_tests}
use denote.Ref.{Bor}
use Rattle.wit_words.specs.Docs.{kept_line, without_empty_end}

abbrev Line : Type 0
Line = List ℕ

-- an empty line at the end goes
last_goes : (ys : List Line) → without_empty_end (ys ++ [] ∷ []) ≡ without_empty_end ys
last_goes [] = refl
last_goes (y ∷ ys) = ap (kept_line y) (last_goes ys)

kept : (y : Line) (ys : List Line) (z : Line) → kept_line y (ys ++ z ∷ []) ≡ y ∷ (ys ++ z ∷ [])
kept (b ∷ y) ys z = refl
kept [] [] z = refl
kept [] (w ∷ ys) z = refl

-- lines whose last isn't empty stay
last_stays : (ys : List Line) (b : ℕ) (x : Line) → without_empty_end (ys ++ (b ∷ x) ∷ []) ≡ ys ++ (b ∷ x) ∷ []
last_stays [] b x = refl
last_stays (y ∷ ys) b x = ap (kept_line y) (last_stays ys b x) ∙ kept y ys (b ∷ x)

nothing : (x : Line) → (length x == 0) ≡ true → x ≡ []
nothing [] e = refl
nothing (b ∷ x) e = absurd (grind (arith, nat_tests))

something : (x : Line) (ys : List Line) → (length x == 0) ≡ false → without_empty_end (ys ++ x ∷ []) ≡ ys ++ x ∷ []
something [] ys e = absurd cc
something (b ∷ x) ys e = last_stays ys b x

-- the last of the first lines
module _ (xs : List (Bor Line)) (at : ℕ) (d : Bor Line) (some : 0 < at) (fits : at ≤ length xs) where
  ends_so : map (λ l. l.now) (take at xs) ≡ map (λ l. l.now) (take (at - 1) xs) ++ (get_or xs (at - 1) d).now ∷ []
  ends_so =
      let same : at ≡ (at - 1) + 1 = omega arith in
      ap (λ n. map (λ l. l.now) (take n xs)) same ∙ map_more (λ (l : Bor Line). l.now) xs (at - 1) d (omega arith)

  pub end_goes : (length (get_or xs (at - 1) d).now == 0) ≡ true → without_empty_end (map (λ l. l.now) (take at xs)) ≡ without_empty_end (map (λ l. l.now) (take (at - 1) xs))
  end_goes e =
      ap without_empty_end (ends_so ∙ ap (λ x. map (λ l. l.now) (take (at - 1) xs) ++ x ∷ []) (nothing (get_or xs (at - 1) d).now e))
      ∙ last_goes (map (λ l. l.now) (take (at - 1) xs))

  pub end_stays : (length (get_or xs (at - 1) d).now == 0) ≡ false → without_empty_end (map (λ l. l.now) (take at xs)) ≡ map (λ l. l.now) (take at xs)
  end_stays e = ap without_empty_end ends_so ∙ something (get_or xs (at - 1) d).now (map (λ l. l.now) (take (at - 1) xs)) e ∙ sym ends_so

-- ---- lines with line feeds between

pub texts_joined : (xs : List (Bor Line)) → join_by (λ l. l.now) (10 ∷ []) xs ≡ join_by (λ line. line) (10 ∷ []) (map (λ l. l.now) xs)
texts_joined [] = refl
texts_joined (x ∷ xs) = ap (λ z. x.now ++ z) (more xs)
  where
    more : (ys : List (Bor Line)) → flat_map (λ l. 10 ∷ l.now) ys ≡ flat_map (λ line. 10 ∷ line) (map (λ l. l.now) ys)
    more [] = refl
    more (y ∷ ys) = ap (λ z. (10 ∷ y.now) ++ z) (more ys)
