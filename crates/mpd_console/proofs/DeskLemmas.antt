-- What a line of the console does, put together from what is told of its parts.
use Rattle.std.proofs.Common.{◌≡◌, ℕ, ◌<◌, ◌≤◌, Bool, true, false, List, [], ◌∷◌, ◌++◌, length, nat_lt, Option, Some, None, ap, sym, ◌∙◌, arith, subst, inl, inr, append_assoc, append-nil}
use Rattle.std.proofs.lemmas.Bool.Decides.{nat_tests}
use Rattle.mpd_model.specs.texts.Words.{words}
use Rattle.mpd_session.specs.Held.{Held}
use Rattle.mpd_vocabulary.specs.declared.word.Word.{Word}
use Rattle.mpd_vocabulary.specs.declared.word.WordFault.{WordFault}
use Rattle.mpd_vocabulary.specs.declared.read.Line.{Line}
use Rattle.mpd_vocabulary.specs.declared.read.Line.TheVariants.{Blank, Comment, Says, Evaluates, Reloads, Sources, Wrong}
use Rattle.mpd_vocabulary.specs.Reading.{line_of, behind_word}
use Rattle.mpd_vocabulary.specs.Faults.{word_at}
use Rattle.mpd_console.specs.declared.told.Told.{Told}
use Rattle.mpd_console.specs.Values.{is_asked, kept_if}
use Rattle.mpd_console.specs.Says.{Adds, Console, WordDone, WordSays, RepeatSays, BlankSays, NameSays, LineSays, SaysBy, ConsoleSays, Evaluated, again, keeps_none}

-- ---- what is added

pub adds : (text before after : List ℕ) → after ≡ before ++ text → Adds before after
adds text before after e = (text, e)

pub adds_none : (before after : List ℕ) → after ≡ before → Adds before after
adds_none before after e = ([], e ∙ sym (append-nil before))

pub adds_both : (before middle after : List ℕ) → Adds before middle → Adds middle after → Adds before after
adds_both before middle after (text, e) (more, h) = (text ++ more, h ∙ ap (λ z. z ++ more) e ∙ append_assoc before text more)

pub ruleset adding = (adds, adds_none)

pub ruleset showing = (adds, adds_none)

-- ---- words

pub word_done : (d e : Console) (x : Word) (o : Option Told) → WordDone d x o e → WordSays d x e
word_done d e x o h = inl (o, h)

pub word_not : (d e : Console) (x : Word) → e ≡ d → WordSays d x e
word_not d e x h = inr h

pub repeated_none : (d e : Console) → d.last ≡ None → e ≡ d → RepeatSays d d.last e
repeated_none d e is same = subst (λ o. RepeatSays d o e) (sym is) same

pub repeated_some : (d e : Console) (x : Word) → d.last ≡ Some x → WordSays d x e → RepeatSays d d.last e
repeated_some d e x is h = subst (λ o. RepeatSays d o e) (sym is) h

-- ---- an empty line

blank_by : (d e : Console) (asked : List ℕ) → keeps_none asked ≡ true → RepeatSays d d.last e → BlankSays d asked e
blank_by d e [] none h = h
blank_by d e (b ∷ z) none h = absurd (let no : ⊥ = cc in no)

-- no expression is kept
pub blank_repeats : (d e : Console) → keeps_none d.asked ≡ true → RepeatSays d d.last e → BlankSays d d.asked e
blank_repeats d e none h = blank_by d e d.asked none h

value_by : (d e : Console) (asked : List ℕ) → keeps_none asked ≡ false → e ≡ d → BlankSays d asked e
value_by d e [] some same = absurd (let no : ⊥ = cc in no)
value_by d e (b ∷ asked) some same = same

-- one is
pub blank_values : (d e : Console) → keeps_none d.asked ≡ false → e ≡ d → BlankSays d d.asked e
blank_values d e some same = value_by d e d.asked some same

pub ruleset blank = (blank_repeats, blank_values)

-- ---- an expression, and the name of a file

pub value_kept : (s : Held) (old z new : List ℕ) (b : Bool) → new ≡ kept_if b z old → b ≡ is_asked s.trail.program.decls z → Evaluated s old z new
value_kept s old z new b kept is = inl (kept ∙ ap (λ c. kept_if c z old) is)

pub value_not : (s : Held) (old z new : List ℕ) → new ≡ old → Evaluated s old z new
value_not s old z new same = inr same

pub name_kept : (d e : Console) (name : List ℕ) → e ≡ record d { named = name } → NameSays d name e
name_kept d e name same = inl same

pub name_refused : (d e : Console) (name : List ℕ) → e ≡ record d { named = [] } → NameSays d name e
name_refused d e name same = inr same

pub ruleset naming = (name_kept, name_refused, adds, adds_none)

-- ---- lines

pub line_blank : (d e : Console) (l : Line) (line : List ℕ) → l ≡ Blank → BlankSays d d.asked e → LineSays d l line e
line_blank d e l line is h = subst (λ k. LineSays d k line e) (sym is) h

pub line_comment : (d e : Console) (l : Line) (line : List ℕ) → l ≡ Comment → e ≡ d → LineSays d l line e
line_comment d e l line is same = subst (λ k. LineSays d k line e) (sym is) same

pub line_wrong : (d e : Console) (l : Line) (f : WordFault) (line : List ℕ) → l ≡ Wrong f → e ≡ d → LineSays d l line e
line_wrong d e l f line is same = subst (λ k. LineSays d k line e) (sym is) same

pub line_reloads : (d e : Console) (l : Line) (line : List ℕ) → l ≡ Reloads → e ≡ d → LineSays d l line e
line_reloads d e l line is same = subst (λ k. LineSays d k line e) (sym is) same

pub line_sources : (d e : Console) (l : Line) (name line : List ℕ) → l ≡ Sources → name ≡ word_at (words line) 1 → NameSays d name e → LineSays d l line e
line_sources d e l name line is named h = subst (λ k. LineSays d k line e) (sym is) (subst (λ n. NameSays d n e) named h)

pub line_says : (d c e : Console) (l : Line) (x : Word) (line : List ℕ) → l ≡ Says x → c ≡ record d { last = Some (again x); asked = [] } → WordSays c x e → LineSays d l line e
line_says d c e l x line is same h = subst (λ k. LineSays d k line e) (sym is) (subst (λ k. WordSays k x e) same h)

pub line_evaluates : (d e : Console) (l : Line) (line : List ℕ) → l ≡ Evaluates → e ≡ record d { asked = e.asked } → Evaluated d.session d.asked (behind_word line) e.asked → LineSays d l line e
line_evaluates d e l line is same h = subst (λ k. LineSays d k line e) (sym is) (same, h)

pub ruleset speaking = (word_done, word_not, repeated_none, repeated_some, value_kept, value_not, line_blank, line_comment, line_wrong, line_says, line_evaluates, line_reloads, line_sources, adds_none)

short : (n : ℕ) → n ≤ 4096 → nat_lt 4096 n ≡ false
short n h = grind (arith, nat_tests)

long : (n : ℕ) → 4096 < n → nat_lt 4096 n ≡ true
long n h = grind (arith, nat_tests)

pub line_said : (d e : Console) (line before middle after : List ℕ) → length line ≤ 4096 → Adds before middle → Adds middle after → LineSays d (line_of d.session.trail.program.decls line) line e
    → (text : List ℕ) × (after ≡ before ++ text) × ConsoleSays d line text e
line_said d e line before middle after few shown said h =
    let all : Adds before after = adds_both before middle after shown said in
    (all.0, all.1, subst (λ b. SaysBy b d line e) (sym (short (length line) few)) h)

pub long_said : (d e : Console) (before middle after : List ℕ) → e ≡ d → Adds before middle → Adds middle after
    → (text : List ℕ) × (after ≡ before ++ text) × ((line : List ℕ) → 4096 < length line → ConsoleSays d line text e)
long_said d e before middle after same shown said =
    let all : Adds before after = adds_both before middle after shown said in
    (all.0, all.1, λ line l. subst (λ b. SaysBy b d line e) (sym (long (length line) l)) same)

pub ruleset answering = (line_said, long_said)
