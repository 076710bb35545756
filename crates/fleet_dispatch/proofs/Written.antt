-- Rows of bytes that end with orders.
use Rattle.std.proofs.Common.{◌≡◌, ◌++◌, [], List, ℕ, append_assoc, append-nil, refl}

-- five pieces that were written one before the other
pub five_joined : (w n f t e rest r1 r2 r3 r4 r5 : List ℕ) → r1 ≡ e ++ rest → r2 ≡ t ++ r1 → r3 ≡ f ++ r2 → r4 ≡ n ++ r3 → r5 ≡ w ++ r4
    → r5 ≡ (w ++ (n ++ (f ++ (t ++ e)))) ++ rest
five_joined w n f t e rest r1 r2 r3 r4 r5 h1 h2 h3 h4 h5 = rw (h5, h4, h3, h2, h1) (simp append_assoc)

-- nine pieces, the last of which ends the row
pub nine_joined : (a b c d e f g h i rest r1 r2 r3 r4 r5 r6 r7 r8 r9 : List ℕ) → rest ≡ [] → r1 ≡ i ++ rest → r2 ≡ h ++ r1 → r3 ≡ g ++ r2 → r4 ≡ f ++ r3 → r5 ≡ e ++ r4 → r6 ≡ d ++ r5
    → r7 ≡ c ++ r6 → r8 ≡ b ++ r7 → r9 ≡ a ++ r8 → r9 ≡ a ++ (b ++ (c ++ (d ++ (e ++ (f ++ (g ++ (h ++ i)))))))
nine_joined a b c d e f g h i rest r1 r2 r3 r4 r5 r6 r7 r8 r9 none h1 h2 h3 h4 h5 h6 h7 h8 h9 = rw (h9, h8, h7, h6, h5, h4, h3, h2, h1, none, append-nil) refl
