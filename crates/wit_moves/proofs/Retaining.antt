-- Entries of a map that are kept, each changed in place.
use Rattle.std.proofs.Common.{◌≡◌, Bool, true, false, List, [], ◌∷◌, cond, subst, sym, refl}
use Rattle.std.specs.Map.Calls.{RetainsPairs}
use Rattle.wit_moves.specs.Interfaces.{AreKept, no_entries, one_goes, one_stays}

module _ {K V F : Type 0} (T : F → K → V → Bool → V → F → Type 0) (stays : V → Bool) (changes : V → V → Type 0) (f : F)
    (says : (k : K) (v : V) (b : Bool) (w : V) (g : F) → T f k v b w g → (b ≡ stays v) × (b ≡ true → changes v w) × (g ≡ f))
  where
    one : (k : K) (v w : V) (b : Bool) (es rest : List (K × V)) → b ≡ stays v → (b ≡ true → changes v w) → AreKept stays changes es rest → AreKept stays changes ((k, v) ∷ es) (cond b ((k, w) ∷ rest) rest)
    one k v w true es rest e c so = one_stays k v w es rest (sym e) (c refl) so
    one k v w false es rest e c so = one_goes k v es rest (sym e) so

    pub kept_from : (es kept : List (K × V)) → RetainsPairs T f es kept → AreKept stays changes es kept
    kept_from [] kept h = subst (AreKept stays changes []) (sym h) no_entries
    kept_from (e ∷ es) kept h =
        let s = says e.0 e.1 h.0 h.1 h.2 h.4 in
        let rest = kept_from es h.3 (subst (λ (g : F). RetainsPairs T g es h.3) s.2 h.5) in
        subst (AreKept stays changes (e ∷ es)) (sym h.6) (one e.0 e.1 h.1 h.0 es h.3 s.0 s.1 rest)
