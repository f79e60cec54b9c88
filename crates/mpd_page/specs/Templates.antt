-- The template of a page: what stands before its data, and what stands after it (docs/PAGES.md, "The file").
use Rattle.std.specs.Prelude.{ℕ, List, ◌++◌}
use Rattle.mpd_page.specs.declared.template.TheConstants.{HEAD_0, HEAD_1, HEAD_2, TAIL_0, TAIL_1, TAIL_2, TAIL_3, TAIL_4, TAIL_5, TAIL_6, TAIL_7}

unfoldable pub head_0 : List ℕ
head_0 = HEAD_0.now

unfoldable pub head_1 : List ℕ
head_1 = HEAD_1.now

unfoldable pub head_2 : List ℕ
head_2 = HEAD_2.now

unfoldable pub tail_0 : List ℕ
tail_0 = TAIL_0.now

unfoldable pub tail_1 : List ℕ
tail_1 = TAIL_1.now

unfoldable pub tail_2 : List ℕ
tail_2 = TAIL_2.now

unfoldable pub tail_3 : List ℕ
tail_3 = TAIL_3.now

unfoldable pub tail_4 : List ℕ
tail_4 = TAIL_4.now

unfoldable pub tail_5 : List ℕ
tail_5 = TAIL_5.now

unfoldable pub tail_6 : List ℕ
tail_6 = TAIL_6.now

unfoldable pub tail_7 : List ℕ
tail_7 = TAIL_7.now

unfoldable pub page_head : List ℕ
page_head = head_0 ++ head_1 ++ head_2

unfoldable pub page_tail : List ℕ
page_tail = tail_0 ++ tail_1 ++ tail_2 ++ tail_3 ++ tail_4 ++ tail_5 ++ tail_6 ++ tail_7
