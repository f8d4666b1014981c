-- Distinct names, and what stands under them.
use Rattle.std.proofs.Common.{◌≡◌, ℕ, true, false, List, [], ◌∷◌, ◌++◌, refl, sym, ap, ◌∙◌, inl, inr, append_assoc}
use Rattle.std.specs.Prelude.{bytes_eq}
use Rattle.std.proofs.lemmas.List.{append-nil}
use Rattle.std.proofs.lemmas.Bool.{cases_Bool, and_parts, and_from}
use Rattle.std.proofs.lemmas.Slice.Eq.{bytes_eq-Decides}
use Rattle.distinct_names.specs.Names.{is_new, all_new}
use Rattle.wit_order.specs.Order.{Has}
use Rattle.type_writing.specs.Passed.type_meaning-Items.{Items, no_items, and_item, Entry, item_named}
use Rattle.type_sinks.specs.Imports.{names_in, entries_of, entry_names}

-- ---- lists

pub has_before : {X : Type 0} (xs ys : List X) (x : X) → Has xs x → Has (xs ++ ys) x
has_before [] ys x h = absurd h
has_before (y ∷ xs) ys x (inl e) = inl e
has_before (y ∷ xs) ys x (inr h) = inr (has_before xs ys x h)

pub has_last : {X : Type 0} (xs : List X) (x : X) → Has (xs ++ x ∷ []) x
has_last [] x = inl refl
has_last (y ∷ xs) x = inr (has_last xs x)

has_name : (es : List Entry) (e : Entry) → Has es e → Has (entry_names es) e.name
has_name [] e h = absurd h
has_name (d ∷ es) e (inl is) = inl (ap (λ (x : Entry). x.name) is)
has_name (d ∷ es) e (inr h) = inr (has_name es e h)

has_item_name : (is : Items) (e : Entry) → Has (entries_of is) e → Has (names_in is) e.name
has_item_name no_items e h = absurd h
has_item_name (and_item n i more) e (inl is) = inl (ap (λ (x : Entry). x.name) is)
has_item_name (and_item n i more) e (inr h) = inr (has_item_name more e h)

-- ---- distinct names

pub bytes_same : (n : List ℕ) → bytes_eq n n ≡ true
bytes_same n = (bytes_eq-Decides n n).1 refl

all_new_behind : (seen names : List (List ℕ)) (name : List ℕ) → all_new seen names ≡ true → is_new (seen ++ names) name ≡ true → all_new seen (names ++ name ∷ []) ≡ true
all_new_behind seen [] name e h = and_from (is_new seen name) true (sym (ap (λ l. is_new l name) (append-nil seen)) ∙ h) refl
all_new_behind seen (n ∷ names) name e h =
    let parts = and_parts (is_new seen n) (all_new (seen ++ n ∷ []) names) e in
    and_from (is_new seen n) (all_new (seen ++ n ∷ []) (names ++ name ∷ [])) parts.0 (all_new_behind (seen ++ n ∷ []) names name parts.1 (ap (λ l. is_new l name) (append_assoc seen (n ∷ []) names) ∙ h))

-- a name that is none of distinct names makes one more
pub all_new_push : (names : List (List ℕ)) (name : List ℕ) → all_new [] names ≡ true → is_new names name ≡ true → all_new [] (names ++ name ∷ []) ≡ true
all_new_push names name e h = all_new_behind [] names name e h

-- a new name is none of those before
new_apart : (names : List (List ℕ)) (n m : List ℕ) → is_new names m ≡ true → Has names n → bytes_eq m n ≡ false
new_apart [] n m h k = absurd k
new_apart (x ∷ names) n m h k = elim (cases_Bool (bytes_eq m x)) [
  | inl b ↦ let bad : false ≡ true = rw b at h in absurd cc
  | inr b ↦ elim k [
    | inl e ↦ ap (bytes_eq m) e ∙ b
    | inr there ↦ new_apart names n m (rw b at h) there
  ]
]

names_apart : (seen names : List (List ℕ)) (n m : List ℕ) → all_new seen names ≡ true → Has seen n → Has names m → bytes_eq m n ≡ false
names_apart seen [] n m e h k = absurd k
names_apart seen (x ∷ names) n m e h (inl is) = ap (λ l. bytes_eq l n) is ∙ new_apart seen n x (and_parts (is_new seen x) (all_new (seen ++ x ∷ []) names) e).0 h
names_apart seen (x ∷ names) n m e h (inr k) = names_apart (seen ++ x ∷ []) names n m (and_parts (is_new seen x) (all_new (seen ++ x ∷ []) names) e).1 (has_before seen (x ∷ []) n h) k

-- ---- items and entries under distinct names

found_behind : (seen : List (List ℕ)) (items : Items) (e : Entry) → all_new seen (names_in items) ≡ true → Has (entries_of items) e → item_named e.name items ≡ e.item
found_behind seen no_items e h k = absurd k
found_behind seen (and_item n i more) e h (inl is) =
    let here : item_named n (and_item n i more) ≡ i = rw (bytes_same n) refl in
    ap (λ (x : Entry). item_named x.name (and_item n i more)) is ∙ here ∙ sym (ap (λ (x : Entry). x.item) is)
found_behind seen (and_item n i more) e h (inr k) =
    let rest = (and_parts (is_new seen n) (all_new (seen ++ n ∷ []) (names_in more)) h).1 in
    let other = names_apart (seen ++ n ∷ []) (names_in more) n e.name rest (has_last seen n) (has_item_name more e k) in
    let there : item_named e.name (and_item n i more) ≡ item_named e.name more = rw other refl in
    there ∙ found_behind (seen ++ n ∷ []) more e rest k

pub items_found : (items : Items) (e : Entry) → all_new [] (names_in items) ≡ true → Has (entries_of items) e → item_named e.name items ≡ e.item
items_found items e h k = found_behind [] items e h k

other_entry : (seen : List (List ℕ)) (d : Entry) (es : List Entry) (a b : Entry) → all_new seen (entry_names (d ∷ es)) ≡ true → a ≡ d → Has es b → a.name ≡ b.name → a ≡ b
other_entry seen d es a b h is k same =
    let rest = (and_parts (is_new seen d.name) (all_new (seen ++ d.name ∷ []) (entry_names es)) h).1 in
    let other = names_apart (seen ++ d.name ∷ []) (entry_names es) d.name b.name rest (has_last seen d.name) (has_name es b k) in
    let one : b.name ≡ d.name = sym same ∙ ap (λ (x : Entry). x.name) is in
    let bad : true ≡ false = sym (ap (λ l. bytes_eq l d.name) one ∙ bytes_same d.name) ∙ other in
    absurd cc

apart_behind : (seen : List (List ℕ)) (es : List Entry) (a b : Entry) → all_new seen (entry_names es) ≡ true → Has es a → Has es b → a.name ≡ b.name → a ≡ b
apart_behind seen [] a b h k m same = absurd k
apart_behind seen (d ∷ es) a b h (inl is) (inl too) same = is ∙ sym too
apart_behind seen (d ∷ es) a b h (inl is) (inr m) same = other_entry seen d es a b h is m same
apart_behind seen (d ∷ es) a b h (inr k) (inl is) same = sym (other_entry seen d es b a h is k (sym same))
apart_behind seen (d ∷ es) a b h (inr k) (inr m) same = apart_behind (seen ++ d.name ∷ []) es a b (and_parts (is_new seen d.name) (all_new (seen ++ d.name ∷ []) (entry_names es)) h).1 k m same

pub entries_apart : (es : List Entry) (a b : Entry) → all_new [] (entry_names es) ≡ true → Has es a → Has es b → a.name ≡ b.name → a ≡ b
entries_apart es a b h k m same = apart_behind [] es a b h k m same
