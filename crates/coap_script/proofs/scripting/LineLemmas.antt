-- The parts of a status line.
use Rattle.std.proofs.Common.{◌≡◌, ℕ, List, ◌++◌, append_assoc}

-- Four labels with numbers and an end, in sequence.
pub four_counts : (front l0 l1 l2 l3 l4 l5 a1 n1 a2 n2 a3 n3 a4 n4 last : List ℕ) → l0 ≡ front → l1 ≡ l0 ++ (a1 ++ n1)
    → l2 ≡ l1 ++ (a2 ++ n2) → l3 ≡ l2 ++ (a3 ++ n3) → l4 ≡ l3 ++ (a4 ++ n4) → l5 ≡ l4 ++ last
    → l5 ≡ front ++ a1 ++ n1 ++ a2 ++ n2 ++ a3 ++ n3 ++ a4 ++ n4 ++ last
four_counts front l0 l1 l2 l3 l4 l5 a1 n1 a2 n2 a3 n3 a4 n4 last e0 e1 e2 e3 e4 e5 =
    rw (e5, e4, e3, e2, e1, e0) (simp append_assoc)
