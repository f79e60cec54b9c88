-- A frame that is written piece by piece.
use Rattle.std.proofs.Common.{◌≡◌, ℕ, ◌+◌, List, ◌++◌, length, codes, ap, sym, ◌∙◌, append_assoc, arith, length-append}
use Rattle.std.specs.Fmt.{decimal}
use Rattle.mpd_frames.specs.Header.{BREAK}
use Rattle.mpd_frames.specs.Frame.{header_text, frame_text}

three_long : (begun digits done : List ℕ) → length begun + length digits + length done ≡ length (begun ++ (digits ++ done))
three_long begun digits done = omega (arith, length-append begun (digits ++ done), length-append digits done)

joined : (old name count breaks begun digits done one two three four five six : List ℕ) → one ≡ old ++ name → two ≡ one ++ count → three ≡ two ++ breaks → four ≡ three ++ begun → five ≡ four ++ digits → six ≡ five ++ done
    → six ≡ old ++ (((name ++ count) ++ breaks) ++ (begun ++ (digits ++ done)))
joined old name count breaks begun digits done one two three four five six a b c d e f = simp (f, e, d, c, b, a, append_assoc)

-- a header whose two breaks are pushed at once
header_is : (n : ℕ) → (codes "Content-Length: " ++ decimal n) ++ (BREAK ++ BREAK) ≡ header_text n
header_is n = sym (append_assoc (codes "Content-Length: " ++ decimal n) BREAK BREAK)

-- the six pieces that are pushed, and the frame
pub six_parts : (old name count breaks begun digits done body one two three four five six : List ℕ) → one ≡ old ++ name → two ≡ one ++ count → three ≡ two ++ breaks → four ≡ three ++ begun → five ≡ four ++ digits → six ≡ five ++ done
    → name ≡ codes "Content-Length: " → count ≡ decimal (length begun + length digits + length done) → breaks ≡ BREAK ++ BREAK → body ≡ begun ++ (digits ++ done) → six ≡ old ++ frame_text body
six_parts old name count breaks begun digits done body one two three four five six a b c d e f is_name is_count is_breaks is_body =
    let text = begun ++ (digits ++ done) in
    joined old name count breaks begun digits done one two three four five six a b c d e f
    ∙ ap (λ x. old ++ (((x ++ count) ++ breaks) ++ text)) is_name
    ∙ ap (λ x. old ++ (((codes "Content-Length: " ++ count) ++ x) ++ text)) is_breaks
    ∙ ap (λ x. old ++ (((codes "Content-Length: " ++ x) ++ (BREAK ++ BREAK)) ++ text)) (is_count ∙ ap decimal (three_long begun digits done))
    ∙ ap (λ x. old ++ (x ++ text)) (header_is (length text))
    ∙ ap (λ x. old ++ (header_text (length x) ++ x)) (sym is_body)
