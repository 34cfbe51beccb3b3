-- The replica file that the engines write.
--     written_file h  the file of a log and its set of atoms, in format 2
use Rattle.std.specs.Prelude.{ℕ, List}
use Rattle.cadf_set.specs.Replica.{ReplicaModel}
use Rattle.cadf_file.specs.FileOf.{file_of}
use Rattle.cadf_file.specs.declared.format.Format.TheVariants.{Two}

abbrev pub written_file : ReplicaModel → List ℕ
written_file h = file_of Two h
