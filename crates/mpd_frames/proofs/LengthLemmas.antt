-- No header gives a body more bytes than one may have.
use Rattle.std.proofs.Common.{◌≡◌, ℕ, ◌≤◌, Bool, true, false, nat_le, if◌then◌else◌, List, [], ◌∷◌, ◌++◌, length, drop, Option, Some, None, Result, Ok, Err, refl, arith}
use Rattle.std.specs.List.{flat_map}
use Rattle.std.proofs.lemmas.Bool.{leb-true}
use Rattle.mpd_model.specs.texts.Words.{words, number_of}
use Rattle.mpd_frames.specs.Header.{lines, within, is_length, length_in, lengths_of_line, only_length}
use Rattle.mpd_frames.specs.Frames.{IsFrame}
use Rattle.mpd_frames.specs.declared.fault.FrameFault.{FrameFault}
use Rattle.mpd_frames.specs.declared.fault.FrameFault.TheVariants.{TwoLengths, BadLength, BodyTooLong, NoLength}

not_ok : (fault : FrameFault) (n : ℕ) → ◌≡◌ {A = Result ℕ FrameFault} (Err fault) (Ok n) → ⊥
not_ok fault n e = cc

same_ok : (m n : ℕ) → ◌≡◌ {A = Result ℕ FrameFault} (Ok m) (Ok n) → m ≡ n
same_ok m n e = cc

bounded : (v : Bool) (m n : ℕ) → nat_le m 1048576 ≡ v → ◌≡◌ {A = Result ℕ FrameFault} (if v then Ok m else Err BodyTooLong) (Ok n) → n ≤ 1048576
bounded true m n is e = let k = same_ok m n e in let le = leb-true m 1048576 is in omega (arith, k, le)
bounded false m n is e = absurd (not_ok BodyTooLong n e)

within_most : (o : Option ℕ) (n : ℕ) → within o ≡ Ok n → n ≤ 1048576
within_most None n e = absurd (not_ok BadLength n e)
within_most (Some m) n e = bounded (nat_le m 1048576) m n refl e

word_most : (v : Bool) (o : Option ℕ) (n : ℕ) → ◌≡◌ {A = Result ℕ FrameFault} (if v then within o else Err BadLength) (Ok n) → n ≤ 1048576
word_most true o n e = within_most o n e
word_most false o n e = absurd (not_ok BadLength n e)

words_most : (ws : List (List ℕ)) (n : ℕ) → length_in ws ≡ Ok n → n ≤ 1048576
words_most [] n e = absurd (not_ok BadLength n e)
words_most (w ∷ []) n e = word_most (nat_le (length w) 7) (number_of w) n e
words_most (w ∷ v ∷ ws) n e = absurd (not_ok BadLength n e)

first_most : (l : Result ℕ FrameFault) (ls : List (Result ℕ FrameFault)) (n : ℕ) → ((m : ℕ) → l ≡ Ok m → m ≤ 1048576) → only_length (l ∷ ls) ≡ Ok n → n ≤ 1048576
first_most (Err fault) ls n h e = absurd (not_ok fault n e)
first_most (Ok m) [] n h e = let k = same_ok m n e in let le = h m refl in omega (arith, k, le)
first_most (Ok m) (l ∷ ls) n h e = absurd (not_ok TwoLengths n e)

line_most : (v : Bool) (l : Result ℕ FrameFault) (others : List (Result ℕ FrameFault)) (n : ℕ) → ((m : ℕ) → l ≡ Ok m → m ≤ 1048576) → (only_length others ≡ Ok n → n ≤ 1048576)
    → only_length ((if v then l ∷ [] else []) ++ others) ≡ Ok n → n ≤ 1048576
line_most true l others n h next e = first_most l others n h e
line_most false l others n h next e = next e

lines_most : (ls : List (List ℕ)) (n : ℕ) → only_length (flat_map lengths_of_line ls) ≡ Ok n → n ≤ 1048576
lines_most [] n e = absurd (not_ok NoLength n e)
lines_most (l ∷ ls) n e = line_most (is_length l) (length_in (words (drop 15 l))) (flat_map lengths_of_line ls) n (λ m. words_most (words (drop 15 l)) m) (lines_most ls n) e

pub body_most : (header body : List ℕ) → IsFrame header body → length body ≤ 1048576
body_most header body f = lines_most (lines header) (length body) f.length_is
