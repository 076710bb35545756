-- The files of a store in memory.
use Rattle.std.specs.Prelude.{option_map}
use Rattle.indexmap.specs.IndexMap.{get_by_text}
use Rattle.fleet_cli.specs.{Files.Store, declared.mem_files.MemFiles.MemFiles}

-- the bytes of a file, by its name
abbrev pub file_in : MemFiles → Store
file_in s name = option_map (λ v. v.items) (get_by_text s.files name)
