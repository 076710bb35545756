use Rattle.std.proofs.{Common.arith, lemmas.Map.Text.text_keys}
use Rattle.fleet_cli.proofs.mem_files.MemFiles.put.Goals as goal

pub returns-clause-others : goal.returns-clause-others
returns-clause-others c = λ n other. grind (arith, text_keys)
