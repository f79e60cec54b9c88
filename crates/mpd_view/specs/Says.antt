-- What a line of a view is answered, and where that leaves the console.
use Rattle.std.specs.Prelude.{◌≡◌, ℕ, ◌⊎◌, List, codes, refl}
use Rattle.std.specs.Coded.{Coded, code_by, coded×, coded_ℕ, coded_list}
use Rattle.mpd_model.specs.texts.Texts.{line}
use Rattle.mpd_console.specs.Says.{Console, console_code, ConsoleSays}
use Rattle.mpd_view.specs.declared.drawn.Size.{Size}

-- what stands in the place of an answer where memory is refused before anything was done
abbrev pub memory_line : List ℕ
memory_line = line (codes "refused: memory")

-- what a view holds: a console, the text of its script, and the size of its screen
pub record View : Type 0 where
  pub console : Console
  pub script : List ℕ
  pub size : Size

abbrev pub size_code : Coded Size
size_code = code_by (ℕ × ℕ) (coded× coded_ℕ coded_ℕ) (λ s. (s.rows, s.columns)) (λ q. record { rows = q.0; columns = q.1 }) (λ _. refl)

abbrev pub view_code : Coded View
view_code =
    code_by (Console × (List ℕ × Size)) (coded× console_code (coded× (coded_list coded_ℕ) size_code))
    (λ d. (d.console, (d.script, d.size))) (λ q. record { console = q.0; script = q.1.0; size = q.1.1 }) (λ _. refl)

-- A view d answers a line by a screen, which is drawn after the console has answered it, and is e then; or memory is refused before the
-- console has heard of the line, and then the text says that.
abbrev pub ViewSays : View → List ℕ → List ℕ → View → Type 0
ViewSays d z text e = (e ≡ record d { console = e.console }) × (ConsoleSays d.console z text e.console ⊎ ((e.console ≡ d.console) × (text ≡ memory_line)))
