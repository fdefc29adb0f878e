-- The word that each layer prints. Assumes nothing.
use Rattle.std.specs.Prelude.{ℕ, List, codes}
use Rattle.vocab.specs.declared.layer.Layer.{Layer}
use Rattle.vocab.specs.declared.layer.Layer.TheVariants.{Log, Image, Server, Copy, Loader}

abbrev pub word : Layer → List ℕ
word Log = codes "log"
word Image = codes "image"
word Server = codes "server"
word Copy = codes "copy"
word Loader = codes "loader"
