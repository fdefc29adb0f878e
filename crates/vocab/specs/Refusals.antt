-- The number of each refusal. Assumes nothing.
use Rattle.std.specs.Prelude.{ℕ}
use Rattle.vocab.specs.declared.refusal.Refusal.{Refusal}
use Rattle.vocab.specs.declared.refusal.Refusal.TheVariants.{BadName, NumberInUse, NoSuchDirectory, NameTaken, StoreFull, NoSuchObject, ContentsTooLong, HasChildren, BeneathItself, NextOutOfRange, PlaceDiffers, StampDiffers, NumbersSpent, LogDamaged, LogFull, SerialsSpent, NotKept, BufferShort, NotWalked, CopyTooSmall, ListShort, RanksFull, RankTooHigh, BadLoader, BadImage}

abbrev pub number_of : Refusal → ℕ
number_of BadName = 1
number_of NumberInUse = 2
number_of NoSuchDirectory = 3
number_of NameTaken = 4
number_of StoreFull = 5
number_of NoSuchObject = 6
number_of ContentsTooLong = 7
number_of HasChildren = 8
number_of BeneathItself = 9
number_of NextOutOfRange = 10
number_of PlaceDiffers = 11
number_of StampDiffers = 12
number_of NumbersSpent = 13
number_of LogDamaged = 14
number_of LogFull = 15
number_of SerialsSpent = 16
number_of NotKept = 17
number_of BufferShort = 18
number_of NotWalked = 19
number_of CopyTooSmall = 20
number_of ListShort = 21
number_of RanksFull = 22
number_of RankTooHigh = 23
number_of BadLoader = 24
number_of BadImage = 25
