-- The statement that a node stands for.
use Rattle.mpd_model.specs.script.Tree.{Tree, simple, branch, repeat, block_of}
use Rattle.mpd_model.specs.declared.stmt.StmtNode.{StmtNode}
use Rattle.mpd_model.specs.declared.stmt.StmtNode.TheVariants.{Simple, If, While}

abbrev pub tree_of : StmtNode → Tree
tree_of (Simple s) = simple s
tree_of (If test first second) = branch test (block_of first.items) (block_of second.items)
tree_of (While test body) = repeat test (block_of body.items)
