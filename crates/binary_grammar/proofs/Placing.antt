-- What is read stands where the cursor was.
use Rattle.std.proofs.Common.{◌≡◌, ℕ, ◌+◌, List, [], ◌++◌, length, Ok, sym, ap, ◌∙◌, append-nil, append_assoc, arith}
use Rattle.std.proofs.lemmas.List.{length-append}
use Rattle.binary_grammar.specs.Format.{Format, byte, byte_at, u32, u32_at, chunk, counted_bytes}
use Rattle.binary_grammar.specs.Cursor.{Cursor}
use Rattle.binary_grammar.specs.Place.{Within, StandsAt}
use Rattle.binary_grammar.specs.Syntax.{Syntax, unbounded, meaning}
use Rattle.binary_grammar.proofs.Laws.{Law, bind_law, byte_law, chunk_law}
use Rattle.binary_grammar.proofs.Numbers.{u32_law}
use Rattle.binary_grammar.proofs.Lawful.{lawful}

-- all bytes, at their start
pub at_start : (bytes : List ℕ) → Within bytes (record { left = bytes; end = length bytes })
at_start bytes = record { front = []; behind = []; parts = sym (append-nil bytes); place = omega arith }

module _ {X : Type 0} (f : Format X) (lf : Law f) (total : List ℕ) (old new : Cursor) (x : X) (same : new.end ≡ old.end) (h : f.read old.left ≡ Ok (x, new.left)) (w : Within total old) where
  pub within_on : Within total new
  within_on =
      let one = lf.found old.left x new.left h in
      record {
        front = w.front ++ one.front;
        behind = w.behind;
        parts = w.parts ∙ ap (λ l. w.front ++ (l ++ w.behind)) one.parts ∙ ap (λ l. w.front ++ l) (append_assoc one.front new.left w.behind) ∙ sym (append_assoc w.front one.front (new.left ++ w.behind));
        place = omega (arith, w.place, same, ap length one.parts, length-append one.front new.left, length-append w.front one.front);
      }

  pub stands_at : (offset : ℕ) → offset + length old.left ≡ old.end → StandsAt f.form total offset x
  stands_at offset here =
      let one = lf.found old.left x new.left h in
      record {
        front = w.front;
        here = one.front;
        behind = new.left ++ w.behind;
        parts = w.parts ∙ ap (λ l. w.front ++ (l ++ w.behind)) one.parts ∙ ap (λ l. w.front ++ l) (append_assoc one.front new.left w.behind);
        place = omega (arith, w.place, here);
        formed = one.formed;
      }

-- behind a byte, a number, and a part
pub behind_byte : (total : List ℕ) (old new : Cursor) (b : ℕ) → new.end ≡ old.end → byte_at old.left ≡ Ok (b, new.left) → Within total old → Within total new
behind_byte = within_on byte byte_law

pub behind_number : (total : List ℕ) (old new : Cursor) (n : ℕ) → new.end ≡ old.end → u32_at old.left ≡ Ok (n, new.left) → Within total old → Within total new
behind_number = within_on u32 u32_law

pub behind_part : {C X : Type 0} (s : Syntax unbounded C X) (there : C) (total : List ℕ) (old new : Cursor) (x : X) → new.end ≡ old.end → (meaning s there).read old.left ≡ Ok (x, new.left) → Within total old → Within total new
behind_part s there = within_on (meaning s there) (lawful s there)

pub part_stands : {C X : Type 0} (s : Syntax unbounded C X) (there : C) (total : List ℕ) (old new : Cursor) (x : X) → new.end ≡ old.end → (meaning s there).read old.left ≡ Ok (x, new.left) → Within total old → (offset : ℕ) → offset + length old.left ≡ old.end → StandsAt (meaning s there).form total offset x
part_stands s there = stands_at (meaning s there) (lawful s there)

-- inside of a size
pub inside_within : (total : List ℕ) (old inner new : Cursor) → new.end ≡ old.end → counted_bytes.read old.left ≡ Ok (inner.left, new.left) → inner.end + length new.left ≡ new.end → Within total old → Within total inner
inside_within total old inner new same h ends w =
    let one = (bind_law u32 chunk u32_law chunk_law).found old.left inner.left new.left h in
    let two = one.formed in
    let here : one.front ≡ two.front ++ inner.left = two.parts ∙ ap (λ l. two.front ++ l) two.second.0 in
    let all : old.left ≡ two.front ++ (inner.left ++ new.left) = one.parts ∙ ap (λ l. l ++ new.left) here ∙ append_assoc two.front inner.left new.left in
    record {
      front = w.front ++ two.front;
      behind = new.left ++ w.behind;
      parts = w.parts ∙ ap (λ l. w.front ++ (l ++ w.behind)) all ∙ simp append_assoc;
      place = omega (arith, w.place, same, ends, ap length all, length-append two.front (inner.left ++ new.left), length-append inner.left new.left, length-append w.front two.front);
    }
