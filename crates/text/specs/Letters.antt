-- The letters of kinds. Assumes nothing.
use Rattle.std.specs.Prelude.{ℕ, cond, Some, None, Option, ◌==◌}

-- the letter of a kind, by its code: E R G L P C M S W A for 0 to 9, H F U for 16 to 18
abbrev pub letter_of : ℕ → Option ℕ
letter_of k =
    cond (k == 0) (Some 69)
    (cond (k == 1) (Some 82)
    (cond (k == 2) (Some 71)
    (cond (k == 3) (Some 76)
    (cond (k == 4) (Some 80)
    (cond (k == 5) (Some 67)
    (cond (k == 6) (Some 77)
    (cond (k == 7) (Some 83)
    (cond (k == 8) (Some 87)
    (cond (k == 9) (Some 65) (cond (k == 16) (Some 72) (cond (k == 17) (Some 70) (cond (k == 18) (Some 85) None))))))))))))

-- the kind that a letter stands for, by its code
abbrev pub kind_of_letter : ℕ → Option ℕ
kind_of_letter l =
    cond (l == 69) (Some 0)
    (cond (l == 82) (Some 1)
    (cond (l == 71) (Some 2)
    (cond (l == 76) (Some 3)
    (cond (l == 80) (Some 4)
    (cond (l == 67) (Some 5)
    (cond (l == 77) (Some 6)
    (cond (l == 83) (Some 7)
    (cond (l == 87) (Some 8)
    (cond (l == 65) (Some 9) (cond (l == 72) (Some 16) (cond (l == 70) (Some 17) (cond (l == 85) (Some 18) None))))))))))))
