mod Alone
mod Pieces
mod Stood
