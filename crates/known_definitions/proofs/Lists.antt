-- What each item of a list stands for, and which list stands for it.
use Rattle.std.proofs.Common.{◌≡◌, List, [], ◌∷◌, map, Option, Some, None, refl, ap, ◌∙◌}
use Rattle.plain_worlds.specs.World.{put, each_of}

pub some_is : {A : Type 0} (x y : A) → Some x ≡ Some y → x ≡ y
some_is x y e = cc

pub each_again : {A B : Type 0} (f : A → Option B) (g : B → A) → ((b : B) → f (g b) ≡ Some b) → (ys : List B) → each_of f (map g ys) ≡ Some ys
each_again f g h [] = refl
each_again f g h (y ∷ ys) = rw (h y, each_again f g h ys) refl

pub each_back : {A B : Type 0} (f : A → Option B) (g : B → A) → ((a : A) (b : B) → f a ≡ Some b → a ≡ g b) → (xs : List A) (ys : List B) → each_of f xs ≡ Some ys → xs ≡ map g ys
each_back f g h [] ys e = ap (map g) (some_is [] ys e)
each_back {A = A} {B = B} f g h (x ∷ xs) ys e = go (λ bs k. each_back f g h xs bs k) (f x) (each_of f xs) refl refl e
  where
    go : ((bs : List B) → each_of f xs ≡ Some bs → xs ≡ map g bs) → (o : Option B) (p : Option (List B)) → f x ≡ o → each_of f xs ≡ p → put o p ≡ Some ys → x ∷ xs ≡ map g ys
    go more None p j k l = absurd cc
    go more (Some b) None j k l = absurd cc
    go more (Some b) (Some bs) j k l = ap (λ (a : A). a ∷ xs) (h x b j) ∙ ap (λ (zs : List A). g b ∷ zs) (more bs k) ∙ ap (map g) (some_is (b ∷ bs) ys l)

pub map_again : {A B : Type 0} (f : A → B) (g : B → A) → ((b : B) → f (g b) ≡ b) → (ys : List B) → map f (map g ys) ≡ ys
map_again f g h [] = refl
map_again f g h (y ∷ ys) = rw (h y, map_again f g h ys) refl
