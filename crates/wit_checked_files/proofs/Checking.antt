-- What the search for a key that stands again says of names and paths.
use Rattle.std.proofs.Common.{◌≡◌, ℕ, ◌<◌, ◌≤◌, List, Some, map, take, length, subst, sym, ap, ◌∙◌, refl, Bor, Bool}
use Rattle.std.proofs.lemmas.List.{take_all, length-map}
use Rattle.std.proofs.lemmas.Option.{slice_get_within}
use Rattle.std.specs.Prelude.{slice_get, bytes_eq}
use Rattle.wit_words.specs.declared.source_map.Span.{Span}
use Rattle.wit_words.specs.Slice.{Slice}
use Rattle.wit_words.specs.NameKey.{name_key}
use Rattle.wit_rules.specs.declared.fault.PackageRule.TheVariants.{DuplicateName}
use Rattle.wit_rules.specs.declared.fault.PackageFault.{PackageFault}
use Rattle.wit_rules.specs.declared.fault.PackageFault.TheVariants.{Broken}
use Rattle.wit_rules.specs.declared.labels.Label.{Label}
use Rattle.wit_rules.specs.Repeats.{IsRepeat, IsFirstRepeat, AreDistinct}
use Rattle.wit_rules.specs.Breaks.{IsKept, IsFaultOf, NamesBreak, PathsBreak}
use Rattle.wit_rules.specs.View as seen
use Rattle.wit_rules.proofs.Repeated.{repeat_of_viewed, viewed_repeat}

abbrev pub key_of : Slice → List ℕ
key_of n = name_key n.text

abbrev pub text_of : Slice → List ℕ
text_of n = n.text

-- keys that were made of all labels
module _ (labels : List Label) (made : Slice → List ℕ) (keys : List (List ℕ)) (i : ℕ) (are : keys ≡ map made (map seen.label (take i labels))) (all : length labels ≤ i) where
  of_all : keys ≡ map made (map seen.label labels)
  of_all = are ∙ ap (λ ls. map made (map seen.label ls)) (take_all i labels all)

  within_all : (place : ℕ) → IsRepeat bytes_eq keys place → place < length labels
  within_all place r =
      let less : place < length keys = slice_get_within keys place r.key r.there in
      subst (λ (n : ℕ). place < n) (ap length of_all ∙ length-map (map seen.label labels) made ∙ length-map labels seen.label) less

  distinct_all : AreDistinct bytes_eq keys → AreDistinct bytes_eq (map made (map seen.label labels))
  distinct_all distinct = subst (AreDistinct bytes_eq) of_all distinct

  repeat_all : (place : ℕ) → IsRepeat bytes_eq keys place → IsRepeat bytes_eq (map made (map seen.label labels)) place
  repeat_all place = subst (λ (ks : List (List ℕ)). IsRepeat bytes_eq ks place) of_all

module _ (names : List Label) (keys : List (List ℕ)) (i : ℕ) (are : keys ≡ map key_of (map seen.label (take i names))) (all : length names ≤ i) where
  pub names_kept : AreDistinct bytes_eq keys → IsKept (NamesBreak (map seen.label names))
  names_kept distinct rule at b = distinct_all names key_of keys i are all distinct b.place b.again

  pub name_within : (place : ℕ) → IsFirstRepeat bytes_eq keys place → place < length names
  name_within place first = within_all names key_of keys i are all place first.repeat

  pub name_breaks : (place : ℕ) → IsFirstRepeat bytes_eq keys place → (fault : PackageFault) (at : Span) → fault ≡ Broken DuplicateName at → slice_get (map (λ n. n.span) (map seen.label names)) place ≡ Some at
      → IsFaultOf (NamesBreak (map seen.label names)) fault
  name_breaks place first fault at is there =
      subst (IsFaultOf (NamesBreak (map seen.label names))) (sym is) (record { rule_is = refl; place = place; again = repeat_all names key_of keys i are all place first.repeat; there = there })

abbrev pub same_text : Bor (List ℕ) → Bor (List ℕ) → Bool
same_text a b = bytes_eq a.now b.now

-- the same of texts that code borrows
module _ (paths : List Label) (texts : List (Bor (List ℕ))) (i : ℕ) (are : map (λ t. t.now) texts ≡ map text_of (map seen.label (take i paths))) (all : length paths ≤ i) where
  pub paths_kept : AreDistinct same_text texts → IsKept (PathsBreak (map seen.label paths))
  paths_kept distinct rule at b =
      distinct_all paths text_of (map (λ t. t.now) texts) i are all (λ place r. distinct place (repeat_of_viewed bytes_eq (λ (t : Bor (List ℕ)). t.now) texts place r)) b.place b.again

  pub path_within : (place : ℕ) → IsFirstRepeat same_text texts place → place < length paths
  path_within place first = within_all paths text_of (map (λ t. t.now) texts) i are all place (viewed_repeat bytes_eq (λ (t : Bor (List ℕ)). t.now) texts place first.repeat)

  pub path_breaks : (place : ℕ) → IsFirstRepeat same_text texts place → (fault : PackageFault) (at : Span) → fault ≡ Broken DuplicateName at → slice_get (map (λ n. n.span) (map seen.label paths)) place ≡ Some at
      → IsFaultOf (PathsBreak (map seen.label paths)) fault
  path_breaks place first fault at is there =
      subst (IsFaultOf (PathsBreak (map seen.label paths))) (sym is)
      (record { rule_is = refl; place = place; again = repeat_all paths text_of (map (λ t. t.now) texts) i are all place (viewed_repeat bytes_eq (λ (t : Bor (List ℕ)). t.now) texts place first.repeat); there = there })
